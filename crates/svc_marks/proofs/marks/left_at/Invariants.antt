use Rattle.std.proofs.Common.{◌≡◌, drop}
use Rattle.svc_marks.specs.Marks.{left_at}
use Rattle.svc_marks.proofs.marks.left_at.Given as goal

abbrev pub invariant-loop-index : goal.invariant-loop-index
invariant-loop-index l = left_at l.at l.bars ≡ left_at l.at (drop l.index l.bars)
