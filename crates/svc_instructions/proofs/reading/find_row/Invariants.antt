use Rattle.std.proofs.Common.{◌≡◌, drop}
use Rattle.std.specs.List.{find}
use Rattle.svc_instructions.specs.Instructions.{is_of}
use Rattle.svc_instructions.proofs.reading.find_row.Given as goal

abbrev pub invariant-loop-row : goal.invariant-loop-row
invariant-loop-row l = find (is_of l.bits) (drop l.row-index l.rows) ≡ find (is_of l.bits) l.rows
