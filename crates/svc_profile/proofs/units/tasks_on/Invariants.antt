use Rattle.std.proofs.Common.{◌≡◌, take}
use Rattle.svc_profile.specs.Units.{tasks_on}
use Rattle.svc_profile.proofs.units.tasks_on.Given as goal

abbrev pub invariant-loop-run : goal.invariant-loop-run
invariant-loop-run l = l.tasks.items ≡ tasks_on (take l.run-index l.runs) l.unit
