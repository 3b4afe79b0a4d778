use Rattle.std.proofs.Common.{◌≡◌, ◌++◌}
use Rattle.svc_marks.specs.Marks.{between, marks_from, marks_of}
use Rattle.svc_marks.specs.Stores.{AreLastShown}
use Rattle.svc_marks.proofs.marks.marks_of.Given as goal

abbrev pub invariant-loop-at : goal.invariant-loop-at
invariant-loop-at l =
    (l.marks.items ++ marks_from l.entries l.window l.left l.at (between l.at l.window.to l.entries) ≡ marks_of l.entries l.window l.bars)
    × AreLastShown l.entries l.window l.at l.stores
