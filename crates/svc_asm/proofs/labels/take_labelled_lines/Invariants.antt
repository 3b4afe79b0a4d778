use Rattle.std.proofs.Common.{List, ℕ, ◌++◌, length, map}
use Rattle.svc_layout.specs.declared.statement.Statement.{Statement}
use Rattle.svc_draft.specs.Drafts.{layout_of}
use Rattle.svc_layout.specs.Layouts.{Layout}
use Rattle.svc_asm.specs.Labels.{Gives, parts_of}
use Rattle.svc_asm.specs.Passes.{Makes}
use Rattle.svc_asm.proofs.labels.take_labelled_lines.Given as goal

-- what the rest gives, behind the labels so far, the whole gives; what the whole makes, the rest makes
abbrev pub invariant-loop-rest : goal.invariant-loop-rest
invariant-loop-rest l = record {
  whole : (todo : List Statement) (made : Layout) (more : List (List ℕ × ℕ)) → Gives todo l.rest (layout_of l.draft) made more
      → (ss : List Statement) × Gives ss l.text (layout_of l.initial.draft) made (map parts_of l.labels.items ++ more);
  left : (ss : List Statement) (made : Layout) → Makes ss l.text (layout_of l.initial.draft) made → (todo : List Statement) × Makes todo l.rest (layout_of l.draft) made;
}

abbrev pub decreases-loop-rest : goal.decreases-loop-rest
decreases-loop-rest l = length l.rest
