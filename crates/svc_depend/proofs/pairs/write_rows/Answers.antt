use Rattle.std.proofs.Common.{◌≡◌, ◌<◌, ◌≤◌, ◌⊎◌, [], ℕ, List, Some, None, length, inl, inr, sym, ◌∙◌, ap, subst, arith}
use Rattle.std.specs.Io.KnownBytes.{Appends, append_known}
use Rattle.std.proofs.KnownBytes.{Appends-nil}
use Rattle.svc_core_laws.proofs.Sequential.{due_enters}
use Rattle.svc_plain.specs.Tasks.{tasks_run}
use Rattle.svc_plain.proofs.Runs.{written_back}
use Rattle.svc_plain.proofs.Turns.{none_of}
use Rattle.svc_text.proofs.Gathered.{row_passes}
use Rattle.svc_depend_laws.specs.Over.{listed}
use Rattle.svc_depend.specs.Links.{links_text}
use Rattle.svc_depend.specs.Pairs.{pairs_of}
use Rattle.svc_depend.specs.Tables.{text_over}
use Rattle.svc_depend.specs.Told.{task_needs, totals}
use Rattle.svc_depend.specs.Walks.{IsFollowed}
use Rattle.svc_depend.proofs.PairsTold.{followed_here, now_before, now_rises, now_told, one_more_told}
use Rattle.svc_depend.proofs.Told.{none_followed, one_more_task, all_ends, count_is}
use Rattle.svc_depend.proofs.pairs.write_rows.Given as given
use Rattle.svc_depend.proofs.pairs.write_rows.Goals as goal
use Rattle.svc_depend.proofs.pairs.write_rows.Goals.{else-loop-task-test, then-loop-task-test+in_default}

pub loop-task-init : goal.loop-task-init
loop-task-init g c =
    let img = c.args.image.now in
    record {
      followed = subst (λ (n : ℕ). IsFollowed img 0 c.in_ok-memory.memory.items (Some n) None c.in_ok-tracker.tracker [] (totals img 0)) (sym c.start.ensures.value)
          (none_followed img c.in_ok-memory.memory.items c.in_ok-tracker.tracker (c.in_ok-memory.ensures.items ∙ c.data_words.ensures.value) c.in_ok-tracker.ensures.task c.in_ok-tracker.ensures.turns
          (c.in_ok-tracker.ensures.size ∙ c.len.ensures ∙ c.in_ok-memory.memory.ok.0) c.in_ok-tracker.ensures.below (c.in_ok-tracker.ensures.tracked _));
      rows = Appends-nil (append_known (g.W.Write.contents c.args.w.now) c.args.text.now.items);
    }

pub link_task-requires-clause-entry : goal.link_task-requires-clause-entry
link_task-requires-clause-entry g c = due_enters c.args.image.now c.start.ensures.sound.start_entry c.loop-task._task c.in-Some.entry (sym c.loop-task.invariant.followed.run.due ∙ c.in-Some.is)

pub put_links-requires-clause-order : goal.put_links-requires-clause-order
put_links-requires-clause-order g c =
    now_rises c.args.image.now c.start.ensures.sound c.loop-task._task c.as_mut_slice.result.now c.in-Some.entry c.loop-task.stopped c.loop-task.tracker
    (listed (task_needs c.args.image.now) c.loop-task._task) (totals c.args.image.now c.loop-task._task)
    (followed_here c.args.image.now c.loop-task._task c.loop-task.memory.items c.as_mut_slice.result.now c.loop-task.due c.in-Some.entry c.loop-task.stopped c.loop-task.tracker
    (listed (task_needs c.args.image.now) c.loop-task._task) (totals c.args.image.now c.loop-task._task) c.as_mut_slice.ensures.value c.in-Some.is c.loop-task.invariant.followed)
    c.in_ok-end.ensures.walked.0 c.link_task.new.memory c.link_task.new.tracker c.in_ok-end.ensures.walked.2
    c.link_task.new.links.items c.deref_mut.result.now c.order_links.new.links c.deref.result.now c.link_task.new.links.len c.in_ok-end.ensures.linked c.deref_mut.ensures.value
    c.order_links.ensures.same c.order_links.ensures.order c.deref.ensures.value c.link_task.new.links.ok.0

pub put_links-requires-clause-before : goal.put_links-requires-clause-before
put_links-requires-clause-before g c =
    now_before c.args.image.now c.start.ensures.sound c.loop-task._task c.as_mut_slice.result.now c.in-Some.entry c.loop-task.stopped c.loop-task.tracker
    (listed (task_needs c.args.image.now) c.loop-task._task) (totals c.args.image.now c.loop-task._task)
    (followed_here c.args.image.now c.loop-task._task c.loop-task.memory.items c.as_mut_slice.result.now c.loop-task.due c.in-Some.entry c.loop-task.stopped c.loop-task.tracker
    (listed (task_needs c.args.image.now) c.loop-task._task) (totals c.args.image.now c.loop-task._task) c.as_mut_slice.ensures.value c.in-Some.is c.loop-task.invariant.followed)
    c.in_ok-end.ensures.walked.0 c.link_task.new.memory c.link_task.new.tracker c.in_ok-end.ensures.walked.2
    c.link_task.new.links.items c.deref_mut.result.now c.order_links.new.links c.deref.result.now c.link_task.new.links.len c.in_ok-end.ensures.linked c.deref_mut.ensures.value
    c.order_links.ensures.same c.order_links.ensures.order c.deref.ensures.value c.link_task.new.links.ok.0

-- what was told of the task
told : (g : given.Over) (c : goal.After-stop-stopped g) → links_text c.args.form c.link_task.new.tracker.task c.deref.result.now ≡ pairs_of c.args.form c.args.image.now c.loop-task._task
told g c =
    now_told c.args.image.now c.start.ensures.sound c.loop-task._task c.as_mut_slice.result.now c.in-Some.entry c.loop-task.stopped c.loop-task.tracker
    (listed (task_needs c.args.image.now) c.loop-task._task) (totals c.args.image.now c.loop-task._task)
    (followed_here c.args.image.now c.loop-task._task c.loop-task.memory.items c.as_mut_slice.result.now c.loop-task.due c.in-Some.entry c.loop-task.stopped c.loop-task.tracker
    (listed (task_needs c.args.image.now) c.loop-task._task) (totals c.args.image.now c.loop-task._task) c.as_mut_slice.ensures.value c.in-Some.is c.loop-task.invariant.followed)
    c.in_ok-end.ensures.walked.0 c.link_task.new.memory c.link_task.new.tracker c.in_ok-end.ensures.walked.2
    c.link_task.new.links.items c.deref_mut.result.now c.order_links.new.links c.deref.result.now c.link_task.new.links.len c.in_ok-end.ensures.linked c.deref_mut.ensures.value
    c.order_links.ensures.same c.order_links.ensures.order c.deref.ensures.value c.link_task.new.links.ok.0 c.args.form

pub loop-task-preserved : goal.loop-task-preserved
loop-task-preserved g c =
    let img = c.args.image.now in
    let j : ℕ = c.loop-task._task in
    let m : List ℕ = c.as_mut_slice.result.now in
    let now = g.W.Write.contents in
    let w = c.in_ok-end.ensures.walked in
    let h : IsFollowed img j m (Some c.in-Some.entry) c.loop-task.stopped c.loop-task.tracker (listed (task_needs img) j) (totals img j) =
    followed_here img j c.loop-task.memory.items m c.loop-task.due c.in-Some.entry c.loop-task.stopped c.loop-task.tracker (listed (task_needs img) j) (totals img j) c.as_mut_slice.ensures.value c.in-Some.is c.loop-task.invariant.followed in
    let same : length c.link_task.new.memory ≡ length c.loop-task.memory.items = c.link_task.auto.memory ∙ ap length c.as_mut_slice.ensures.value in
    let size : c.loop-task.memory.len ≡ length c.loop-task.memory.items = sym c.as_mut_slice.ensures.len ∙ ap length c.as_mut_slice.ensures.value in
    let early : j < 1000000 = omega (arith, c.loop-task-test.true, c.requires) in
    let row : List ℕ = links_text c.args.form c.link_task.new.tracker.task c.deref.result.now in
    let passed : Appends (append_known (now c.loop-task.w) c.loop-task.text.items) (append_known (now c.write_if_long.new.w) c.write_if_long.new.text.items) row =
    row_passes (now c.loop-task.w) (now c.write_if_long.new.w) c.loop-task.text.items c.put_links.new.text.items c.write_if_long.new.text.items row c.in_ok-put_links.ensures c.in_ok-write_if_long.ensures in
    record {
      followed = one_more_task img c.start.ensures.sound j m c.in-Some.entry c.loop-task.stopped c.loop-task.tracker h w.0 c.link_task.new.memory c.link_task.new.tracker w.2 early
          c.in_ok-end.end _ _ c.next_task.new.self _ w.1 c.next-due.ensures c.stop-stopped.ensures
          (written_back c.link_task.new.memory c.loop-task.memory.items c.loop-task.memory.len same size) c.link_task.auto.memory c.in_ok-end.ensures.few c.next_task.ensures.task c.next_task.ensures.turns c.next_task.ensures.size c.next_task.ensures.below
          c.next_task.ensures.tracked;
      rows = one_more_told (pairs_of c.args.form img) j (append_known (now c.args.w.now) c.args.text.now.items) (append_known (now c.loop-task.w) c.loop-task.text.items)
          (append_known (now c.write_if_long.new.w) c.write_if_long.new.text.items) c.loop-task.invariant.rows
          (subst (Appends (append_known (now c.loop-task.w) c.loop-task.text.items) (append_known (now c.write_if_long.new.w) c.write_if_long.new.text.items)) (told g c) passed);
    }

-- the last task was followed, or the run stopped before it
last : (g : given.Over) (c : goal.After-drop-memory-2 g) → (c.loop-task._task ≤ c.args.k) × ((c.loop-task._task ≡ c.args.k) ⊎ (c.loop-task.due ≡ None))
last g c = elim c.loop-task-test.branch [
  | else-loop-task-test w ↦ let all : c.loop-task._task ≡ c.args.k = omega arith in (omega (arith, all), inl all)
  | then-loop-task-test+in_default w ↦ (omega arith, inr (none_of c.loop-task.due w.in_default.not-Some))
]

pub returns-clause-rows : goal.returns-clause-rows
returns-clause-rows g c =
    let img = c.args.image.now in
    let j : ℕ = c.loop-task._task in
    let count : j ≡ tasks_run img c.args.k = count_is img c.start.ensures.sound c.args.k j c.loop-task.memory.items c.loop-task.due c.loop-task.stopped c.loop-task.tracker (listed (task_needs img) j) (totals img j) (last g c).0 (last g c).1 c.loop-task.invariant.followed in
    subst (λ (n : ℕ). Appends (append_known (g.W.Write.contents c.args.w.now) c.args.text.now.items) (append_known (g.W.Write.contents c.loop-task.w) c.loop-task.text.items) (text_over (pairs_of c.args.form img) n)) count c.loop-task.invariant.rows

pub returns-clause-ending : goal.returns-clause-ending
returns-clause-ending g c =
    let img = c.args.image.now in
    let j : ℕ = c.loop-task._task in
    c.of.ensures ∙ all_ends img c.start.ensures.sound c.args.k j c.loop-task.memory.items c.loop-task.due c.loop-task.stopped c.loop-task.tracker (listed (task_needs img) j) (totals img j) (last g c).0 (last g c).1 c.loop-task.invariant.followed
