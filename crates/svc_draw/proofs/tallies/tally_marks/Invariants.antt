use Rattle.std.proofs.Common.{◌≡◌, drop}
use Rattle.svc_draw.specs.Tallies.{marks_tallied, with_marks}
use Rattle.svc_draw.proofs.tallies.tally_marks.Given as goal

abbrev pub invariant-loop-mark : goal.invariant-loop-mark
invariant-loop-mark l =
    with_marks l.frame.sheet l.kind l.tallies (drop l.mark-index l.marks) ≡ marks_tallied l.frame.sheet l.kind l.marks
