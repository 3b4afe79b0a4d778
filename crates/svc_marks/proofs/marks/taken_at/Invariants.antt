use Rattle.std.proofs.Common.{◌≡◌, ◌+◌, drop}
use Rattle.svc_marks.specs.Marks.{first_where, takes}
use Rattle.svc_marks.proofs.marks.taken_at.Given as goal

abbrev pub invariant-loop-entry : goal.invariant-loop-entry
invariant-loop-entry l =
    (l.at ≡ l.from + l.entry-index)
    × (first_where (takes l.unit l.word) l.from l.entries ≡ first_where (takes l.unit l.word) l.at (drop l.entry-index l.entries))
