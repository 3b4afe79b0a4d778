use Rattle.std.proofs.Common.{◌≡◌, ◌++◌, take}
use Rattle.std.specs.Prelude.{flat_map}
use Rattle.svc_machine.specs.Value.{StandsAt}
use Rattle.svc_machine_laws.specs.Standing.{Standing}
use Rattle.svc_moves.specs.Moves.{named_row}
use Rattle.svc_moves.proofs.moves.put_each.Given as goal

abbrev pub invariant-loop-one : goal.invariant-loop-one
invariant-loop-one l =
    (s : Standing) → StandsAt l.machine s
    → l.rows.items ≡ l.fn.rows.items ++ flat_map (named_row l.machine.image l.machine.config s l.unit.0) (take l.one-index l.named)
