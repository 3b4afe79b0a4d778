use Rattle.std.proofs.Common.{◌≡◌, ◌+◌, ◌++◌, ℕ, List, Option, Some, length, sym, ◌∙◌, ap, subst, arith}
use Rattle.svc_core_laws.proofs.Sequential.{due_enters}
use Rattle.svc_plain.specs.Tasks.{IsRun}
use Rattle.svc_plain.proofs.Turns.{none_of}
use Rattle.svc_plain.proofs.Runs.{next_run, same_run, idle_until, written_back, ends_so, puts_out_so, leaves_so}
use Rattle.svc_plain.proofs.run.run_tasks.Goals as goal
use Rattle.svc_plain.proofs.run.run_tasks.Goals.{else-loop-task-test, then-loop-task-test+in_default}

pub run_task-end-requires-clause-entry : goal.run_task-end-requires-clause-entry
run_task-end-requires-clause-entry c = due_enters c.args.image.now c.start.ensures.sound.start_entry c.loop-task._task c.in-Some.entry (sym c.loop-task.invariant.due ∙ c.in-Some.is)

pub loop-task-preserved : goal.loop-task-preserved
loop-task-preserved c =
    let img = c.args.image.now in
    let base = c.as_mut_slice.result.now in
    let here : IsRun img c.loop-task._task c.loop-task.tasks c.loop-task.memory.items c.loop-task.output.items (Some c.in-Some.entry) c.loop-task.stopped = subst (λ (o : Option ℕ). IsRun img c.loop-task._task c.loop-task.tasks c.loop-task.memory.items c.loop-task.output.items o c.loop-task.stopped) c.in-Some.is c.loop-task.invariant in
    let run : IsRun img c.loop-task._task c.loop-task.tasks base c.loop-task.output.items (Some c.in-Some.entry) c.loop-task.stopped = subst (λ (m : List ℕ). IsRun img c.loop-task._task c.loop-task.tasks m c.loop-task.output.items (Some c.in-Some.entry) c.loop-task.stopped) (sym c.as_mut_slice.ensures.value) here in
    let same : length c.run_task-end.new.memory ≡ length c.loop-task.memory.items = c.run_task-end.auto.memory ∙ ap length c.as_mut_slice.ensures.value in
    let size : c.loop-task.memory.len ≡ length c.loop-task.memory.items = sym c.as_mut_slice.ensures.len ∙ ap length c.as_mut_slice.ensures.value in
    let put : c.loop-task.output.items ++ c.run_task-end.new.words.items ≡ c.extend_from_slice.new.self.items = ap (λ (x : List ℕ). c.loop-task.output.items ++ x) (sym c.as_slice.ensures.value) ∙ sym c.in_ok-extend_from_slice.ensures.items in
    same_run img (c.loop-task._task + 1) (c.loop-task.tasks + 1) _ _ _ _ _ _ _ _
    (next_run img c.loop-task._task c.loop-task.tasks base c.run_task-end.new.memory c.loop-task.output.items c.run_task-end.new.words.items c.in-Some.entry c.loop-task.stopped c.run_task-end.result c.start.ensures.sound run c.run_task-end.auto.memory c.run_task-end.ensures.memory c.run_task-end.ensures.output c.run_task-end.ensures.end)
    (sym (written_back c.run_task-end.new.memory c.loop-task.memory.items c.loop-task.memory.len same size)) put (sym c.next-due.ensures) (sym c.stop-stopped.ensures)

-- the last task was run, or the run stopped before it
last : (c : goal.After-of) → IsRun c.args.image.now c.args.k c.loop-task.tasks c.loop-task.memory.items c.loop-task.output.items c.loop-task.due c.loop-task.stopped
last c = elim c.loop-task-test.branch [
  | else-loop-task-test w ↦
      let all : c.loop-task._task ≡ c.args.k = omega arith in
      subst (λ (k : ℕ). IsRun c.args.image.now k c.loop-task.tasks c.loop-task.memory.items c.loop-task.output.items c.loop-task.due c.loop-task.stopped) all c.loop-task.invariant
  | then-loop-task-test+in_default w ↦ idle_until c.args.image.now c.loop-task._task c.args.k c.loop-task.tasks c.loop-task.memory.items c.loop-task.output.items c.loop-task.due c.loop-task.stopped c.start.ensures.sound (omega arith) (none_of c.loop-task.due w.in_default.not-Some) c.loop-task.invariant
]

pub returns-clause-tasks : goal.returns-clause-tasks
returns-clause-tasks c = (last c).tasks

pub returns-clause-memory : goal.returns-clause-memory
returns-clause-memory c = leaves_so c.args.image.now c.args.k c.loop-task.tasks c.loop-task.memory.items c.loop-task.output.items c.loop-task.due c.loop-task.stopped c.start.ensures.sound (last c)

pub returns-clause-output : goal.returns-clause-output
returns-clause-output c = puts_out_so c.args.image.now c.args.k c.loop-task.tasks c.loop-task.memory.items c.loop-task.output.items c.loop-task.due c.loop-task.stopped c.start.ensures.sound (last c)

pub returns-clause-ending : goal.returns-clause-ending
returns-clause-ending c = c.of.ensures ∙ ends_so c.args.image.now c.args.k c.loop-task.tasks c.loop-task.memory.items c.loop-task.output.items c.loop-task.due c.loop-task.stopped c.start.ensures.sound (last c)
