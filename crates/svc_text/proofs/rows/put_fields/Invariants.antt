use Rattle.std.proofs.Common.{◌≡◌, ◌++◌, take}
use Rattle.std.specs.Prelude.{flat_map}
use Rattle.svc_text.specs.Rows.{field}
use Rattle.svc_text.proofs.rows.put_fields.Given as goal

abbrev pub invariant-loop-number : goal.invariant-loop-number
invariant-loop-number g l = l.text.items ≡ l.fn.text.items ++ (g.P.Piece.bytes l.fn.first ++ flat_map field (take l.number-index l.numbers))
