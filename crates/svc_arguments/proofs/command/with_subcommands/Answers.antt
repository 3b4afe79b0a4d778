use Rattle.svc_arguments.proofs.Adding.{has_next}
use Rattle.svc_arguments.proofs.command.with_subcommands.Goals as goal

pub loop-subcommand-preserved : goal.loop-subcommand-preserved
loop-subcommand-preserved c =
    has_next c.args.command c.loop-subcommand.command c.in_ok-described.field-0 c.in_ok-command.command c.args.table.now
    c.loop-subcommand.subcommand-index _ c.loop-subcommand-test.true c.loop-subcommand.invariant c.in_ok-command.ensures
    c.in_ok-described.ensures.local c.in_ok-described.ensures.told
