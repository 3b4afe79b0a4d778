use Rattle.svc_arguments.specs.Told.{IsSame}
use Rattle.svc_arguments.proofs.command.excluding.Given as goal

abbrev pub invariant-loop-name : goal.invariant-loop-name
invariant-loop-name l = IsSame l.fn.arg l.arg
