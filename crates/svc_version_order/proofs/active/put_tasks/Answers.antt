use Rattle.std.proofs.Common.{Some, List, subst, arith}
use Rattle.std.specs.Io.KnownBytes.{Appends}
use Rattle.svc_core_laws.specs.State.{State}
use Rattle.svc_core_laws.specs.Words.{program}
use Rattle.svc_bus.specs.State.{bus_state}
use Rattle.svc_machine_laws.specs.PlainMachine.{Running, running}
use Rattle.svc_held.specs.Tasks.{each_task}
use Rattle.svc_held.proofs.EachTask.{all_tasks, task_more}
use Rattle.svc_version_order.specs.Order.{task_field}
use Rattle.svc_version_order.proofs.active.put_tasks.Goals as goal

pub loop-place-preserved : goal.loop-place-preserved
loop-place-preserved c =
    let m = c.args.machine.now in
    let a = Some c.args.rows.now.items in
    let b = Some c.loop-place.rows.items in
    let d = Some c.put_task_at.new.rows.items in
    task_more (task_field (bus_state m.bus) c.args.named.word.0) m.plain.commits (running (program m.image) m.plain) c.loop-place.place a b d c.loop-place.invariant
    c.in_ok-put_task_at.ensures

pub returns : goal.returns
returns c =
    let m = c.args.machine.now in
    let a = Some c.args.rows.now.items in
    let b = Some c.loop-place.rows.items in
    let end = c.loop-place-test.false in
    let count = c.active_tasks-place-end.ensures in
    let all = all_tasks (program m.image) m.plain c.loop-place.place (omega (arith, end, count)) in
    subst (λ (runs : List (Running State)). Appends a b (each_task (task_field (bus_state m.bus) c.args.named.word.0) m.plain.commits runs)) all c.loop-place.invariant
