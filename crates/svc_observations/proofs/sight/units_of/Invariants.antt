use Rattle.std.proofs.Common.{◌≡◌, map, take}
use Rattle.svc_machine_laws.specs.PlainMachine.{unit_of}
use Rattle.svc_observations.specs.Rosters.{unit_numbers}
use Rattle.svc_observations.proofs.sight.units_of.Given as goal

abbrev pub invariant-loop-place : goal.invariant-loop-place
invariant-loop-place l = unit_numbers l.units.items ≡ map unit_of (take l.place l.machine.plain.tasks)
