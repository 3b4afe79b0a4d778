-- There are few tasks, since each has a unit of its own, and few were committed, since each commit is an event.
use Rattle.std.proofs.Common.{length, ap, arith}
use Rattle.svc_machine_laws.specs.PlainMachine.{Plain}
use Rattle.svc_machine_laws.proofs.Room.{tasks_few}
use Rattle.svc_held.proofs.tasks.number_at.Goals as goal

pub overflow_add-result : goal.overflow_add-result
overflow_add-result c =
    let m = c.args.machine.now in
    let stands = c.config-config.ensures.standing in
    let s = stands.0 in
    let reached = c.config-config.ensures.reached s stands.1 in
    let few = tasks_few m.image m.config s reached in
    let tasks = ap (λ (p : Plain). length p.tasks) stands.1.plain in
    let commits = ap (λ (p : Plain). p.commits) stands.1.plain in
    let accepted = reached.commits_few in
    let events = reached.accepted_few in
    let units = m.config.few_units in
    let most = m.config.few_events in
    let first = c.committed_tasks-first.ensures in
    let active = c.requires.active in
    omega (arith, few, tasks, commits, accepted, events, units, most, first, active)
