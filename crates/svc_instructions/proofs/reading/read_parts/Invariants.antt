use Rattle.std.proofs.Common.{◌≡◌, drop}
use Rattle.svc_draft.specs.Drafts.{layout_of}
use Rattle.svc_instructions.specs.Instructions.{parts_of, parts_at}
use Rattle.svc_instructions.proofs.reading.read_parts.Given as goal

abbrev pub invariant-loop-part : goal.invariant-loop-part
invariant-loop-part l = parts_at (layout_of l.draft) (drop l.part-index l.part-items) l.rest l.word ≡ parts_at (layout_of l.draft) (parts_of l.row) l.text l.row.1
