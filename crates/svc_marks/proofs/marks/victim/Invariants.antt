use Rattle.std.proofs.Common.{◌≡◌, drop}
use Rattle.svc_marks.specs.Marks.{first_bar, is_victim}
use Rattle.svc_marks.proofs.marks.victim.Given as goal

abbrev pub invariant-loop-bar : goal.invariant-loop-bar
invariant-loop-bar l = first_bar (is_victim l.entry l.at) l.bars ≡ first_bar (is_victim l.entry l.at) (drop l.bar-index l.bars)
