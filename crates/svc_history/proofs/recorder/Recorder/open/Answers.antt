use Rattle.std.proofs.Common.{ap, arith}
use Rattle.svc_base.specs.declared.config.Config.{Config}
use Rattle.svc_history.proofs.Recording.{opened_kept}
use Rattle.svc_history.proofs.recorder.Recorder.open.Goals as goal

pub invariant_of-result : goal.invariant_of-result
invariant_of-result c =
    let machine = c.in_ok-machine.ensures {u = tt} in
    let entries = c.in-Ok.ensures {u = tt} in
    let events = ap (λ (g : Config). g.events) machine.config in
    (opened_kept c.in_ok-machine.machine c.args.image c.args.config c.in-Ok.entries.items machine.image machine.config c.start-start.ensures.sound machine.standing entries.items, omega (arith, events, entries.capacity))
