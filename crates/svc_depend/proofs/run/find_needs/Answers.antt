use Rattle.std.proofs.Common.{◌≡◌, ◌<◌, ◌≤◌, ◌⊎◌, [], ℕ, suc, List, Option, Some, None, length, inl, inr, sym, ◌∙◌, ap, subst, arith}
use Rattle.svc_core_laws.specs.State.{limit_of}
use Rattle.svc_core_laws.proofs.Sequential.{due_enters}
use Rattle.svc_plain.proofs.Runs.{written_back}
use Rattle.svc_plain.proofs.Turns.{none_of}
use Rattle.svc_depend.specs.declared.needs.TaskNeeds.{TaskNeeds}
use Rattle.svc_depend.specs.declared.needs.Totals.{Totals}
use Rattle.svc_depend.specs.Told.{IsFew}
use Rattle.svc_depend.specs.Walks.{IsFollowed, IsWalked}
use Rattle.svc_depend.proofs.Told.{none_followed, row_few, one_more, all_told, all_summed, all_words, all_nearest, all_ends}
use Rattle.svc_depend.proofs.run.find_needs.Goals as goal
use Rattle.svc_depend.proofs.run.find_needs.Goals.{else-loop-task-test, then-loop-task-test+in_default}

pub loop-task-init : goal.loop-task-init
loop-task-init c =
    let img = c.args.image.now in
    let made : IsFollowed img 0 c.in_ok-memory.memory.items (Some img.start) None c.in_ok-tracker.tracker [] c.none-totals.result =
    subst (λ (t : Totals). IsFollowed img 0 c.in_ok-memory.memory.items (Some img.start) None c.in_ok-tracker.tracker [] t) (sym c.none-totals.ensures)
    (none_followed img c.in_ok-memory.memory.items c.in_ok-tracker.tracker (c.in_ok-memory.ensures.items ∙ c.data_words.ensures.value) c.in_ok-tracker.ensures.task c.in_ok-tracker.ensures.turns
    (c.in_ok-tracker.ensures.size ∙ c.len.ensures ∙ c.in_ok-memory.memory.ok.0) c.in_ok-tracker.ensures.below (c.in_ok-tracker.ensures.tracked _)) in
    subst (λ (n : ℕ). IsFollowed img 0 c.in_ok-memory.memory.items (Some n) None c.in_ok-tracker.tracker c.new-tasks.result.items c.none-totals.result) (sym c.start.ensures.value)
    (subst (λ (l : List TaskNeeds). IsFollowed img 0 c.in_ok-memory.memory.items (Some img.start) None c.in_ok-tracker.tracker l c.none-totals.result) (sym c.new-tasks.ensures.items) made)

pub run_task-end-requires-clause-entry : goal.run_task-end-requires-clause-entry
run_task-end-requires-clause-entry c = due_enters c.args.image.now c.start.ensures.sound.start_entry c.loop-task._task c.in-Some.entry (sym c.loop-task.invariant.run.due ∙ c.in-Some.is)

-- the task that was followed in this turn of the loop
here : (c : goal.After-stop-stopped) → IsFollowed c.args.image.now c.loop-task._task c.as_mut_slice.result.now (Some c.in-Some.entry) c.loop-task.stopped c.loop-task.tracker c.loop-task.tasks.items c.loop-task.totals
here c =
    subst (λ (m : List ℕ). IsFollowed c.args.image.now c.loop-task._task m (Some c.in-Some.entry) c.loop-task.stopped c.loop-task.tracker c.loop-task.tasks.items c.loop-task.totals) (sym c.as_mut_slice.ensures.value)
    (subst (λ (o : Option ℕ). IsFollowed c.args.image.now c.loop-task._task c.loop-task.memory.items o c.loop-task.stopped c.loop-task.tracker c.loop-task.tasks.items c.loop-task.totals) c.in-Some.is c.loop-task.invariant)

pub loop-task-preserved : goal.loop-task-preserved
loop-task-preserved c =
    let img = c.args.image.now in
    let sound = c.start.ensures.sound in
    let j : ℕ = c.loop-task._task in
    let m : List ℕ = c.as_mut_slice.result.now in
    let w = c.run_task-end.ensures.walked in
    let walked : IsWalked img c.in-Some.entry (suc (limit_of img c.in-Some.entry)) m c.loop-task.tracker w.0 c.run_task-end.new.memory c.run_task-end.new.tracker = w.2 in
    let same : length c.run_task-end.new.memory ≡ length c.loop-task.memory.items = c.run_task-end.auto.memory ∙ ap length c.as_mut_slice.ensures.value in
    let size : c.loop-task.memory.len ≡ length c.loop-task.memory.items = sym c.as_mut_slice.ensures.len ∙ ap length c.as_mut_slice.ensures.value in
    let early : j < 1000000 = omega (arith, c.loop-task-test.true, c.requires) in
    one_more img sound j m c.in-Some.entry c.loop-task.stopped c.loop-task.tracker c.loop-task.tasks.items c.loop-task.totals (here c) w.0 c.run_task-end.new.memory c.run_task-end.new.tracker walked
    c.run_task-end.result _ _ c.next_task.new.self _ c.task_needs-needs.result _ _ w.1 c.next-due.ensures c.stop-stopped.ensures
    (written_back c.run_task-end.new.memory c.loop-task.memory.items c.loop-task.memory.len same size) c.run_task-end.auto.memory c.run_task-end.ensures.few c.next_task.ensures.task c.next_task.ensures.turns c.next_task.ensures.size c.next_task.ensures.below
    c.next_task.ensures.tracked c.task_needs-needs.ensures
    (subst IsFew (sym c.task_needs-needs.ensures) (row_few img sound j m c.in-Some.entry c.loop-task.stopped c.loop-task.tracker c.loop-task.tasks.items c.loop-task.totals (here c) w.0 c.run_task-end.new.memory c.run_task-end.new.tracker walked early c.run_task-end.ensures.few walked.below))
    c.in_ok-push.ensures c.with-totals.ensures

-- the last task was followed, or the run stopped before it
last : (c : goal.After-drop-memory-2) → (c.loop-task._task ≤ c.args.k) × ((c.loop-task._task ≡ c.args.k) ⊎ (c.loop-task.due ≡ None))
last c = elim c.loop-task-test.branch [
  | else-loop-task-test w ↦ let all : c.loop-task._task ≡ c.args.k = omega arith in (omega (arith, all), inl all)
  | then-loop-task-test+in_default w ↦ (omega arith, inr (none_of c.loop-task.due w.in_default.not-Some))
]

pub returns-clause-tasks : goal.returns-clause-tasks
returns-clause-tasks c = all_told c.args.image.now c.start.ensures.sound c.args.k c.loop-task._task c.loop-task.memory.items c.loop-task.due c.loop-task.stopped c.loop-task.tracker c.loop-task.tasks.items c.loop-task.totals (last c).0 (last c).1 c.loop-task.invariant

pub returns-clause-totals : goal.returns-clause-totals
returns-clause-totals c = all_summed c.args.image.now c.start.ensures.sound c.args.k c.loop-task._task c.loop-task.memory.items c.loop-task.due c.loop-task.stopped c.loop-task.tracker c.loop-task.tasks.items c.loop-task.totals (last c).0 (last c).1 c.loop-task.invariant

pub returns-clause-words : goal.returns-clause-words
returns-clause-words c = all_words c.args.image.now c.start.ensures.sound c.args.k c.loop-task._task c.loop-task.memory.items c.loop-task.due c.loop-task.stopped c.loop-task.tracker c.loop-task.tasks.items c.loop-task.totals (last c).0 (last c).1 c.loop-task.invariant

pub returns-clause-nearest : goal.returns-clause-nearest
returns-clause-nearest c = all_nearest c.args.image.now c.start.ensures.sound c.args.k c.loop-task._task c.loop-task.memory.items c.loop-task.due c.loop-task.stopped c.loop-task.tracker c.loop-task.tasks.items c.loop-task.totals (last c).0 (last c).1 c.loop-task.invariant

pub returns-clause-ending : goal.returns-clause-ending
returns-clause-ending c = c.of.ensures ∙ all_ends c.args.image.now c.start.ensures.sound c.args.k c.loop-task._task c.loop-task.memory.items c.loop-task.due c.loop-task.stopped c.loop-task.tracker c.loop-task.tasks.items c.loop-task.totals (last c).0 (last c).1 c.loop-task.invariant
