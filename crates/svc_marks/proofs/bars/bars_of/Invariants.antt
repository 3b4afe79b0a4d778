use Rattle.std.proofs.Common.{◌≡◌, take}
use Rattle.svc_marks.specs.Bars.{bars_in}
use Rattle.svc_marks.proofs.bars.bars_of.Given as goal

abbrev pub invariant-loop-task : goal.invariant-loop-task
invariant-loop-task l = l.bars.items ≡ bars_in l.window (take l.task-index l.task-items)
