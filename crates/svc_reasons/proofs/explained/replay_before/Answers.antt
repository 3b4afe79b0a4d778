use Rattle.svc_reasons.proofs.Sound.{sound_as}
use Rattle.svc_reasons.proofs.explained.replay_before.Goals as goal

pub returns-in-All-clause-sound : goal.returns-in-All-clause-sound
returns-in-All-clause-sound c =
    let done = c.check_trace.ensures in
    sound_as c.args.compared c.in-All.is c.args.image c.args.config c.args.entries.now c.check_trace.result done.image done.config done.entries done.legal
