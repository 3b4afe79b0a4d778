use Rattle.std.proofs.Common.{◌≡◌, ◌++◌}
use Rattle.std.specs.Prelude.{flat_map}
use Rattle.std.specs.List.{range_with_len}
use Rattle.svc_machine.specs.Value.{StandsAt}
use Rattle.svc_machine_laws.specs.Standing.{Standing}
use Rattle.svc_moves.specs.Moves.{unit_moves}
use Rattle.svc_moves.proofs.moves.put_units.Given as goal

abbrev pub invariant-loop-unit : goal.invariant-loop-unit
invariant-loop-unit l =
    (s : Standing) → StandsAt l.machine s
    → l.rows.items ≡ l.fn.rows.items ++ flat_map (unit_moves l.machine.image l.machine.config s) (range_with_len 0 l.unit)
