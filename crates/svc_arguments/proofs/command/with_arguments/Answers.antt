use Rattle.svc_arguments.proofs.Adding.{takes_next}
use Rattle.svc_arguments.proofs.command.with_arguments.Goals as goal

pub loop-argument-preserved : goal.loop-argument-preserved
loop-argument-preserved c =
    takes_next c.args.command c.loop-argument.command c.in_ok-command.command c.in_ok-given.field-0 c.args.arguments.now
    c.loop-argument.argument-index _ c.loop-argument-test.true c.loop-argument.invariant c.in_ok-command.ensures
    c.in_ok-given.ensures.local c.in_ok-given.ensures.told
