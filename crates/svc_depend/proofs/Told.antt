-- What is told of the tasks that were followed.
use Rattle.std.proofs.Common.{ℕ, suc, ◌≡◌, ◌+◌, ◌-◌, ◌*◌, ◌<◌, ◌≤◌, ◌⊎◌, ◌++◌, ◌∷◌, List, [], length, Option, Some, None, false, refl, sym, ap, ap₂, ◌∙◌, subst, arith, add-one, inl, inr, unwrap_or}
use Rattle.std.specs.Prelude.{slice_index}
use Rattle.svc_image.specs.Image.{Image, IsImage}
use Rattle.svc_core_laws.specs.declared.end.End.{End}
use Rattle.svc_core_laws.specs.State.{State, limit_of}
use Rattle.svc_core_laws.specs.Turns.{data_words}
use Rattle.svc_core_laws.specs.Program.{Memory, Program, Run, Action, Seq, due_after, stopped_after, exposed_words, no_reads, no_words, output, task_log, seq, task, wrote}
use Rattle.svc_core_laws.specs.Words.{program}
use Rattle.svc_core_laws.specs.Sequence.{ending_of, plain_seq}
use Rattle.svc_plain.specs.Tasks.{IsRun, tasks_run}
use Rattle.svc_plain.proofs.Runs.{next_run, idle_until, ends_so, no_tasks}
use Rattle.svc_depend_laws.specs.Needs.{IsNearestOf}
use Rattle.svc_depend_laws.specs.Chain.{Clock, Times, chain, clock_due, clock_of, times_before}
use Rattle.svc_depend_laws.specs.Counts.{distance_in, is_from_memory, is_written, needs, memory_needs, nearest, stores}
use Rattle.svc_depend_laws.specs.Over.{count_over, least_over, listed}
use Rattle.svc_depend_laws.specs.Turns.{turns, turns_due, turns_taken}
use Rattle.svc_depend_laws.proofs.Grows.{said_is}
use Rattle.svc_depend_laws.proofs.Stopped.{ends_for_good}
use Rattle.svc_depend.specs.declared.needs.TaskNeeds.{TaskNeeds}
use Rattle.svc_depend.specs.declared.needs.Totals.{Totals}
use Rattle.svc_depend.specs.declared.tracker.Tracker.{Tracker}
use Rattle.svc_depend.specs.declared.links.Link.{Link}
use Rattle.svc_depend.specs.Links.{AreLinks}
use Rattle.svc_depend.specs.Tracking.{IsBelow, IsTracked, told_of}
use Rattle.svc_depend.proofs.Linked.{AreLinked}
use Rattle.svc_depend.specs.Told.{AreFew, AreOf, AreWords, IsFew, added, nothing_yet, task_needs, totals}
use Rattle.svc_depend.specs.Walks.{IsFollowed, IsWalked}
use Rattle.svc_depend_laws.proofs.Nearness.{nearest_of_all}

-- before the first task
pub none_followed : (img : Image) (m : List ℕ) (t : Tracker) → m ≡ img.words → t.task ≡ 0 → t.turns ≡ 0 → length t.words.items ≡ length m → IsBelow 0 t → IsTracked (program img) no_reads no_words (times_before (program img) 0) 0 t
    → IsFollowed img 0 m (Some img.start) None t [] nothing_yet
none_followed img m t words task turns size below tracked = record {
  run = subst (λ (x : List ℕ). IsRun img 0 0 x [] (Some img.start) None) (sym words) (no_tasks img);
  task = task;
  size = size;
  below = (let e : 0 ≡ 3 * t.turns = omega (arith, turns) in subst (λ (n : ℕ). IsBelow n t) e below);
  few = omega (arith, turns);
  tracked = tracked;
  told_is = refl;
  all_is = refl;
  all_few = record { turns = omega arith; needs = omega arith; memory = omega arith };
}

-- the numbers of a task that was followed from these words, which are those before it
module _ (img : Image) (sound : IsImage img) (j : ℕ) (m : List ℕ) (entry : ℕ) (last : Option End) (s : Tracker) (rows : List TaskNeeds) (all : Totals) (h : IsFollowed img j m (Some entry) last s rows all)
    (core : State) (after : List ℕ) (u : Tracker) (walked : IsWalked img entry (suc (limit_of img entry)) m s core after u) where
  abbrev p : Program State
  p = program img

  abbrev base : Memory
  base = slice_index m

  abbrev sj : Seq
  sj = seq p j

  abbrev run_ : Run State
  run_ = task p entry base

  abbrev clock : Clock
  clock = clock_of p entry (suc (limit_of img entry)) base (times_before p j)

  here : base ≡ sj.memory
  here = λ i a. h.run.memory a i

  due : Some entry ≡ sj.due
  due = h.run.due

  log_is : task_log p j ≡ run_.log
  log_is = said_is p j entry (sym due) ∙ ap (λ (x : Memory). (task p entry x).log) (sym here)

  clock_is : clock ≡ clock_due p sj.memory (times_before p j) sj.due
  clock_is = ap (λ (x : Memory). clock_of p entry (suc (limit_of img entry)) x (times_before p j)) here ∙ ap (clock_due p sj.memory (times_before p j)) due

  turns_are : turns_taken p entry (suc (limit_of img entry)) base ≡ turns p j
  turns_are = ap (λ (x : Memory). turns_taken p entry (suc (limit_of img entry)) x) here ∙ ap (turns_due p sj.memory) due

  task_is : u.task ≡ j
  task_is = walked.task ∙ h.task

  size_is : length u.words.items ≡ data_words img
  size_is = walked.size ∙ h.size ∙ h.run.size

  pub followed : IsTracked p (exposed_words (task_log p j)) (wrote (task_log p j)) clock.stores clock.now u
  followed = subst (λ (l : List Action). IsTracked p (exposed_words l) (wrote l) clock.stores clock.now u) (sym log_is) (walked.tracked (times_before p j) h.tracked)

  -- what the task was linked to is what its number's is
  pub links_are : (links : List Link) → AreLinked img entry (suc (limit_of img entry)) m s links → AreLinks p j (exposed_words (task_log p j)) links
  links_are links linked =
      subst (λ (l : List Action). AreLinks p j (exposed_words l) links) (sym log_is)
      (subst (λ (k : ℕ). AreLinks p k (exposed_words run_.log) links) h.task (linked (times_before p j) h.tracked))

  pub row_is : told_of entry s.turns u ≡ task_needs img j
  row_is =
      let t = followed in
      let count : u.turns ≡ s.turns + turns_taken p entry (suc (limit_of img entry)) base = walked.turns in
      let same : u.turns - s.turns ≡ turns p j = omega (arith, count, turns_are) in
      let e1 : entry ≡ unwrap_or sj.due 0 = ap (λ o. unwrap_or o 0) due in
      let e3 : u.needs ≡ needs p (data_words img) j = t.needs ∙ ap (count_over (exposed_words (task_log p j))) size_is in
      let e4 : u.memory ≡ memory_needs p (data_words img) j = t.memory ∙ ap₂ (λ k n. count_over (is_from_memory p k (exposed_words (task_log p j))) n) task_is size_is in
      let e5 : u.nearest ≡ nearest p (data_words img) j = t.nearest ∙ ap₂ (λ k n. least_over (distance_in p k (exposed_words (task_log p j))) n) task_is size_is in
      let e6 : u.stores ≡ stores p (data_words img) j = t.stores ∙ ap (count_over (is_written (wrote (task_log p j)))) size_is in
      let e7 : u.time ≡ chain p j = t.time_is ∙ ap (λ (c : Clock). c.now) clock_is in
      λ i. record { task = task_is i; entry = e1 i; turns = same i; needs = e3 i; memory = e4 i; nearest = e5 i; stores = e6 i; chain = e7 i }

  pub row_few : j < 1000000 → u.turns ≤ s.turns + 65537 → IsBelow (3 * u.turns) u → IsFew (told_of entry s.turns u)
  row_few early more below =
      let few : s.turns ≤ 65537 * j = h.few in
      let n = below.needs in
      let k = below.memory in
      record { turns = omega (arith, more); needs = omega (arith, n, few, more, early); memory = omega (arith, k, few, more, early) }

  pub all_are_few : j < 1000000 → AreFew all
  all_are_few early =
      let a = h.all_few.turns in
      let b = h.all_few.needs in
      let c = h.all_few.memory in
      record { turns = omega (arith, a, early); needs = omega (arith, b, early); memory = omega (arith, c, early) }

  pub one_more : (end : End) (next : Option ℕ) (stop : Option End) (t : Tracker) (then : List ℕ) (row : TaskNeeds) (more : List TaskNeeds) (sum : Totals) → core.done ≡ Some end → next ≡ due_after (Some end) → stop ≡ stopped_after (Some end)
      → then ≡ after → length after ≡ length m → u.turns ≤ s.turns + 65537 → t.task ≡ u.task + 1 → t.turns ≡ u.turns → length t.words.items ≡ length u.words.items → IsBelow (3 * t.turns) t
      → ((p : Program State) → (times : Times) → (now : ℕ) → IsTracked p (exposed_words (task_log p u.task)) (wrote (task_log p u.task)) times now u → IsTracked p no_reads no_words times 0 t)
      → row ≡ told_of entry s.turns u → IsFew row → more ≡ rows ++ row ∷ [] → sum ≡ added row all
      → IsFollowed img (j + 1) then next stop t more sum
  one_more end next stop t then row more sum done next_is stop_is then_is length_is few task_next turns_next size_next below tracks row_told row_low rows_are sum_is =
      let is_row : row ≡ task_needs img j = row_told ∙ row_is in
      let ran : IsRun img (j + 1) (j + 1) after (sj.output ++ output run_.log) (due_after (Some end)) (stopped_after (Some end)) =
      next_run img j j m after sj.output (output run_.log) entry last end sound h.run length_is walked.memory_is refl (sym (ap (λ (c : State). c.done) walked.core_is) ∙ done) in
      let put : IsRun img (j + 1) (j + 1) after (seq p (j + 1)).output (due_after (Some end)) (stopped_after (Some end)) =
      subst (λ (o : List ℕ). IsRun img (j + 1) (j + 1) after o (due_after (Some end)) (stopped_after (Some end))) ran.output ran in
      let then_run : IsRun img (j + 1) (j + 1) then (seq p (j + 1)).output next stop =
      subst (λ (x : List ℕ). IsRun img (j + 1) (j + 1) x (seq p (j + 1)).output next stop) (sym then_is)
      (subst (λ (o : Option ℕ). IsRun img (j + 1) (j + 1) after (seq p (j + 1)).output o stop) (sym next_is)
      (subst (λ (o : Option End). IsRun img (j + 1) (j + 1) after (seq p (j + 1)).output (due_after (Some end)) o) (sym stop_is) put)) in
      let again : IsTracked p (exposed_words (task_log p u.task)) (wrote (task_log p u.task)) clock.stores clock.now u =
      subst (λ (k : ℕ). IsTracked p (exposed_words (task_log p k)) (wrote (task_log p k)) clock.stores clock.now u) (sym task_is) followed in
      let old : s.turns ≤ 65537 * j = h.few in
      record {
        run = then_run;
        task = omega (arith, task_next, task_is);
        size = size_next ∙ walked.size ∙ h.size ∙ sym length_is ∙ ap length (sym then_is);
        below = below;
        few = omega (arith, few, turns_next, old);
        tracked = subst (λ (k : ℕ). IsTracked p no_reads no_words (times_before p k) 0 t) (sym (add-one j))
            (subst (λ (c : Clock). IsTracked p no_reads no_words c.stores 0 t) clock_is (tracks p clock.stores clock.now again));
        told_is = rows_are ∙ ap₂ (λ (x : List TaskNeeds) (y : TaskNeeds). x ++ y ∷ []) h.told_is is_row ∙ ap (listed (task_needs img)) (sym (add-one j));
        all_is = sum_is ∙ ap₂ added is_row h.all_is ∙ ap (totals img) (sym (add-one j));
        all_few = subst (AreOf (j + 1)) (sym sum_is)
            (let a = h.all_few.turns in let b = h.all_few.needs in let c = h.all_few.memory in let x = row_low.turns in let y = row_low.needs in let z = row_low.memory in
            record { turns = omega (arith, a, x); needs = omega (arith, b, y); memory = omega (arith, c, z) });
      }

-- the same, where nothing is kept of the tasks
pub one_more_task : (img : Image) (sound : IsImage img) (j : ℕ) (m : List ℕ) (entry : ℕ) (last : Option End) (s : Tracker) → IsFollowed img j m (Some entry) last s (listed (task_needs img) j) (totals img j)
    → (core : State) (after : List ℕ) (u : Tracker) → IsWalked img entry (suc (limit_of img entry)) m s core after u → j < 1000000
    → (end : End) (next : Option ℕ) (stop : Option End) (t : Tracker) (then : List ℕ) → core.done ≡ Some end → next ≡ due_after (Some end) → stop ≡ stopped_after (Some end)
    → then ≡ after → length after ≡ length m → u.turns ≤ s.turns + 65537 → t.task ≡ u.task + 1 → t.turns ≡ u.turns → length t.words.items ≡ length u.words.items → IsBelow (3 * t.turns) t
    → ((p : Program State) → (times : Times) → (now : ℕ) → IsTracked p (exposed_words (task_log p u.task)) (wrote (task_log p u.task)) times now u → IsTracked p no_reads no_words times 0 t)
    → IsFollowed img (j + 1) then next stop t (listed (task_needs img) (j + 1)) (totals img (j + 1))
one_more_task img sound j m entry last s h core after u walked early end next stop t then done next_is stop_is then_is length_is few task_next turns_next size_next below tracks =
    let rows : List TaskNeeds = listed (task_needs img) j in
    let row : TaskNeeds = told_of entry s.turns u in
    let next_task : IsFollowed img (j + 1) then next stop t (rows ++ row ∷ []) (added row (totals img j)) =
    one_more img sound j m entry last s rows (totals img j) h core after u walked end next stop t then row (rows ++ row ∷ []) (added row (totals img j)) done next_is stop_is then_is length_is few task_next turns_next size_next below tracks
    refl (row_few img sound j m entry last s rows (totals img j) h core after u walked early few walked.below) refl refl in
    subst (λ (l : List TaskNeeds). IsFollowed img (j + 1) then next stop t l (totals img (j + 1))) next_task.told_is
    (subst (λ (x : Totals). IsFollowed img (j + 1) then next stop t (rows ++ row ∷ []) x) next_task.all_is next_task)

-- ---- at the end

-- the first k tasks were followed, or as many as there are
module _ (img : Image) (sound : IsImage img) (k j : ℕ) (m : List ℕ) (due : Option ℕ) (stopped : Option End) (t : Tracker) (rows : List TaskNeeds) (all : Totals) (few : j ≤ k) (ends : (j ≡ k) ⊎ (due ≡ None)) (h : IsFollowed img j m due stopped t rows all) where
  whole_run : IsRun img k j m (seq (program img) j).output due stopped
  whole_run = elim ends [
    | inl e ↦ subst (λ (n : ℕ). IsRun img n j m (seq (program img) j).output due stopped) e h.run
    | inr none ↦ idle_until img j k j m (seq (program img) j).output due stopped sound few none h.run
  ]

  pub count_is : j ≡ tasks_run img k
  count_is = whole_run.tasks

  pub all_told : rows ≡ listed (task_needs img) (tasks_run img k)
  all_told = h.told_is ∙ ap (listed (task_needs img)) count_is

  pub all_summed : all ≡ totals img (tasks_run img k)
  all_summed = h.all_is ∙ ap (totals img) count_is

  pub all_words : AreWords img (tasks_run img k) t.words.items
  all_words =
      let size : length t.words.items ≡ data_words img = h.size ∙ h.run.size in
      subst (λ (n : ℕ). AreWords img n t.words.items) (h.task ∙ count_is)
      (record {
        size = size;
        readers_are = λ w below. (h.tracked.words w below).readers ∙ (omega arith);
        writers_are = λ w below. (h.tracked.words w below).writers ∙ (omega arith);
        nearest_is = λ w below. (h.tracked.words w below).nearest;
      })

  pub all_nearest : IsNearestOf (program img) k all.nearest
  all_nearest =
      let here : IsNearestOf (program img) j all.nearest = subst (IsNearestOf (program img) j) (sym (ap (λ (x : Totals). x.nearest) h.all_is)) (nearest_of_all img j) in
      elim ends [
        | inl e ↦ subst (λ (n : ℕ). IsNearestOf (program img) n all.nearest) e here
        | inr none ↦ ends_for_good (program img) j k all.nearest (sym h.run.due ∙ none) few here
      ]

  pub all_ends : ending_of false stopped due ≡ ending_of false (plain_seq img k).stopped (plain_seq img k).due
  all_ends = ends_so img k j m (seq (program img) j).output due stopped sound whole_run
