use Rattle.std.proofs.Common.{◌≡◌, ◌++◌, map, take}
use Rattle.svc_arguments.specs.Told.{all_told, described}
use Rattle.svc_arguments.proofs.command.with_subcommands.Given as goal

abbrev pub invariant-loop-subcommand : goal.invariant-loop-subcommand
invariant-loop-subcommand l =
    all_told l.command ≡ all_told l.fn.command ++ map described (take l.subcommand-index l.table)
