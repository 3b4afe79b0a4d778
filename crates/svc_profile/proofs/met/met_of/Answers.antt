use Rattle.svc_profile.proofs.Meeting.{turns_fit}
use Rattle.svc_profile.proofs.met.met_of.Goals as goal

pub add_all-requires-clause-turns : goal.add_all-requires-clause-turns
add_all-requires-clause-turns c =
    rw (c.deref.ensures.value, c.in_ok-meetings.ensures.met) (turns_fit c.args.meets c.args.entries.now c.requires.few c.in_ok-meetings.ensures.few)
