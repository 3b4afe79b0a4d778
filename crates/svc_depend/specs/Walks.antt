-- How far a task has been followed.
use Rattle.std.specs.Prelude.{◌≡◌, ℕ, ◌+◌, ◌*◌, ◌≤◌, List, length, Option, slice_index}
use Rattle.svc_image.specs.Image.{Image}
use Rattle.svc_core_laws.specs.State.{State}
use Rattle.svc_core_laws.specs.declared.end.End.{End}
use Rattle.svc_core_laws.specs.Program.{exposed_words, no_reads, no_words, over, part, seq, wrote}
use Rattle.svc_core_laws.specs.Words.{program}
use Rattle.svc_plain.specs.Tasks.{IsRun}
use Rattle.svc_depend_laws.specs.Chain.{Times, clock_of, times_before}
use Rattle.svc_depend_laws.specs.Over.{listed}
use Rattle.svc_depend_laws.specs.Turns.{turns_taken}
use Rattle.svc_depend.specs.declared.tracker.Tracker.{Tracker}
use Rattle.svc_depend.specs.declared.needs.TaskNeeds.{TaskNeeds}
use Rattle.svc_depend.specs.declared.needs.Totals.{Totals}
use Rattle.svc_depend.specs.Told.{AreOf, task_needs, totals}
use Rattle.svc_depend.specs.Tracking.{IsBelow, IsTracked}

-- from these words and this tracker, n turns from an entry have led to this core, these words and this tracker
pub record IsWalked (img : Image) (entry n : ℕ) (before : List ℕ) (begun : Tracker) (core : State) (memory : List ℕ)
    (t : Tracker) : Type 0 where
  pub core_is : core ≡ (part (program img) entry n (slice_index before)).core
  pub memory_is : (a : ℕ)
      → slice_index memory a ≡ over (wrote (part (program img) entry n (slice_index before)).log) (slice_index before) a
  pub task : t.task ≡ begun.task
  pub size : length t.words.items ≡ length begun.words.items
  pub below : IsBelow (3 * t.turns) t
  pub turns : t.turns ≡ begun.turns + turns_taken (program img) entry n (slice_index before)
  pub few : t.turns ≤ begun.turns + n
  pub tracked : (times : Times) → IsTracked (program img) no_reads no_words times 0 begun
      → IsTracked (program img) (exposed_words (part (program img) entry n (slice_index before)).log)
      (wrote (part (program img) entry n (slice_index before)).log)
      (clock_of (program img) entry n (slice_index before) times).stores
      (clock_of (program img) entry n (slice_index before) times).now t

-- the first so many tasks have been followed, each of which there was; they have led to these words of memory, this
-- entry for the next task and this end, if any, and this has been told of them
pub record IsFollowed (img : Image) (tasks : ℕ) (memory : List ℕ) (due : Option ℕ) (stopped : Option End)
    (t : Tracker) (told : List TaskNeeds) (all : Totals) : Type 0 where
  pub run : IsRun img tasks tasks memory (seq (program img) tasks).output due stopped
  pub task : t.task ≡ tasks
  pub size : length t.words.items ≡ length memory
  pub below : IsBelow (3 * t.turns) t
  pub few : t.turns ≤ 65537 * tasks
  pub tracked : IsTracked (program img) no_reads no_words (times_before (program img) tasks) 0 t
  pub told_is : told ≡ listed (task_needs img) tasks
  pub all_is : all ≡ totals img tasks
  pub all_few : AreOf tasks all
