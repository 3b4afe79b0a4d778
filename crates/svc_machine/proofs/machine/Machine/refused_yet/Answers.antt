use Rattle.std.proofs.Common.{◌∙◌, ap, sym, subst}
use Rattle.svc_machine.specs.Admitted.{IsFound, refused_yet}
use Rattle.svc_machine.proofs.Refused.{known_unit}
use Rattle.svc_machine.proofs.machine.Machine.refused_yet.Goals as goal

pub room_refusal-requires : goal.room_refusal-requires
room_refusal-requires c =
    let standing = c.config-standing.ensures.standing in
    known_unit c.args.self.now standing.0 standing.1 (c.config-standing.ensures.reached standing.0 standing.1) c.in-Submit.burst.now.unit.0 c.in-Submit.place (subst (IsFound c.args.self.now) c.in-Submit.is c.requires)

pub returns-in-Submit : goal.returns-in-Submit
returns-in-Submit c = λ t agrees. c.room_refusal.ensures t agrees ∙ sym (ap (refused_yet c.args.self.now.image t) c.in-Submit.is)
