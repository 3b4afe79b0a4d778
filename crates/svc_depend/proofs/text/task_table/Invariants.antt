use Rattle.std.proofs.Common.{◌≡◌, ◌++◌, take}
use Rattle.std.specs.Prelude.{flat_map}
use Rattle.svc_depend.specs.Tables.{task_header, task_row}
use Rattle.svc_depend.proofs.text.task_table.Given as goal

abbrev pub invariant-loop-task : goal.invariant-loop-task
invariant-loop-task l = l.text.items ≡ task_header ++ flat_map task_row (take l.task-index l.tasks)
