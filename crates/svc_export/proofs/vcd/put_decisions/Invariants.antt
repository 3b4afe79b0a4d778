use Rattle.std.proofs.Common.{◌≡◌, ◌++◌, take}
use Rattle.std.specs.Prelude.{flat_map}
use Rattle.svc_export.specs.Vcd.{decision}
use Rattle.svc_export.proofs.vcd.put_decisions.Given as goal

abbrev pub invariant-loop-task : goal.invariant-loop-task
invariant-loop-task l = l.text.items ≡ l.fn.text.items ++ flat_map (decision l.entries l.words l.at) (take l.task-index l.tasks)
