use Rattle.std.proofs.Common.{◌≡◌, drop}
use Rattle.svc_draft.specs.Drafts.{layout_of}
use Rattle.svc_instructions.specs.Instructions.{rows_at}
use Rattle.svc_instructions.proofs.reading.read_rows.Given as goal

abbrev pub invariant-loop-row : goal.invariant-loop-row
invariant-loop-row l = rows_at (layout_of l.draft) (drop l.row-index l.rows) l.name l.text ≡ rows_at (layout_of l.draft) l.rows l.name l.text
