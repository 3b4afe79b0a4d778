use Rattle.std.proofs.Common.{◌≡◌, ◌++◌, take}
use Rattle.svc_core_laws.specs.Words.{program}
use Rattle.svc_bus.specs.State.{bus_state}
use Rattle.svc_machine_laws.specs.PlainMachine.{running}
use Rattle.svc_held.specs.Tasks.{each_task}
use Rattle.svc_version_order.specs.Order.{task_field}
use Rattle.svc_version_order.proofs.active.put_tasks.Given as goal

abbrev pub invariant-loop-place : goal.invariant-loop-place
invariant-loop-place l =
    l.rows.items ≡ l.fn.rows.items
    ++ each_task (task_field (bus_state l.machine.bus) l.named.word.0) l.machine.plain.commits (take l.place (running (program l.machine.image) l.machine.plain))
