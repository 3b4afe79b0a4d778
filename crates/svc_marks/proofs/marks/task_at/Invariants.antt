use Rattle.std.proofs.Common.{◌≡◌, drop}
use Rattle.svc_marks.specs.Bars.{runs}
use Rattle.svc_marks.specs.Marks.{first_bar}
use Rattle.svc_marks.proofs.marks.task_at.Given as goal

abbrev pub invariant-loop-bar : goal.invariant-loop-bar
invariant-loop-bar l = first_bar (runs l.unit l.at) l.bars ≡ first_bar (runs l.unit l.at) (drop l.bar-index l.bars)
