use Rattle.std.proofs.Common.{map, take}
use Rattle.svc_arguments.specs.Told.{TakesMore, tells}
use Rattle.svc_arguments.proofs.command.with_arguments.Given as goal

abbrev pub invariant-loop-argument : goal.invariant-loop-argument
invariant-loop-argument l = TakesMore l.fn.command (map tells (take l.argument-index l.arguments)) l.command
