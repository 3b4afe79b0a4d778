use Rattle.std.proofs.Common.{List, length}
use Rattle.svc_layout.specs.declared.statement.Statement.{Statement}
use Rattle.svc_draft.specs.Drafts.{layout_of}
use Rattle.svc_layout.specs.Layouts.{Layout}
use Rattle.svc_asm.specs.Passes.{Makes}
use Rattle.svc_asm.proofs.rounds.take_lines.Given as goal

-- what the rest makes, the whole makes, and the other way round
abbrev pub invariant-loop-rest : goal.invariant-loop-rest
invariant-loop-rest l = record {
  whole : (todo : List Statement) (made : Layout) → Makes todo l.rest (layout_of l.draft) made → (ss : List Statement) × Makes ss l.text (layout_of l.initial.draft) made;
  left : (ss : List Statement) (made : Layout) → Makes ss l.text (layout_of l.initial.draft) made → (todo : List Statement) × Makes todo l.rest (layout_of l.draft) made;
}

abbrev pub decreases-loop-rest : goal.decreases-loop-rest
decreases-loop-rest l = length l.rest
