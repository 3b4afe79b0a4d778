-- What a tracker of needs stands for.
use Rattle.std.specs.Prelude.{◌≡◌, ℕ, ◌+◌, ◌-◌, ◌==◌, ◌<◌, ◌≤◌, Bool, cond, max, length, get_or, slice_set, Option}
use Rattle.std.specs.Prelude.{Some, None}
use Rattle.svc_core_laws.specs.Program.{Program, Words}
use Rattle.svc_depend_laws.specs.Needs.{comes_from}
use Rattle.svc_depend_laws.specs.Over.{lesser, count_over, least_over}
use Rattle.svc_depend_laws.specs.Counts.{back_to, distance_in, is_from_memory, is_written, nearest_of_word}
use Rattle.svc_depend_laws.specs.Counts as counts
use Rattle.svc_depend_laws.specs.Chain.{Times}
use Rattle.svc_depend.specs.declared.word.Word.{Word}
use Rattle.svc_depend.specs.declared.tracker.Tracker.{Tracker}
use Rattle.svc_depend.specs.declared.needs.TaskNeeds.{TaskNeeds}
use Rattle.svc_depend.specs.Words.{untouched, read_by, written_by}

-- a task as the number after it, and no task as 0
abbrev pub place_of : Option ℕ → ℕ
place_of None = 0
place_of (Some task) = task + 1

-- what is kept of a word says what the tasks did with it, where the one that runs has exposed it or not, and written it
-- or not, and it was stored so
pub record IsWord {C : Type 0} (p : Program C) (task word : ℕ) (exposed written : Bool) (time : ℕ)
    (x : Word) : Type 0 where
  pub reader : (x.reader == task + 1) ≡ exposed
  pub no_later : x.reader ≤ task + 1
  pub writer : x.writer ≡ place_of (cond written (Some task) (comes_from p task word))
  pub stored : x.stored ≡ time
  pub readers : x.readers ≡ counts.readers p task word + cond exposed 1 0
  pub writers : x.writers ≡ counts.writers p task word + cond written 1 0
  pub nearest : x.nearest
      ≡ lesser (cond exposed (back_to task (comes_from p task word)) None) (nearest_of_word p task word)

-- a tracker has followed the sequential run through the tasks before its own, and its own has exposed and written these
-- words, has stored each word at these times, and has come to this time
pub record IsTracked {C : Type 0} (p : Program C) (exposes : ℕ → Bool) (writes : Words) (times : Times) (time : ℕ)
    (t : Tracker) : Type 0 where
  pub words : (word : ℕ) → word < length t.words.items
      → IsWord p t.task word (exposes word) (is_written writes word) (times word) (get_or t.words.items word untouched)
  pub needs : t.needs ≡ count_over exposes (length t.words.items)
  pub memory : t.memory ≡ count_over (is_from_memory p t.task exposes) (length t.words.items)
  pub stores : t.stores ≡ count_over (is_written writes) (length t.words.items)
  pub nearest : t.nearest ≡ least_over (distance_in p t.task exposes) (length t.words.items)
  pub time_is : t.time ≡ time

-- none of what is kept of a word is above this
pub record IsWordBelow (most : ℕ) (x : Word) : Type 0 where
  pub stored : x.stored ≤ most
  pub readers : x.readers ≤ most
  pub writers : x.writers ≤ most

-- none of what a tracker counts is above this
pub record IsBelow (most : ℕ) (t : Tracker) : Type 0 where
  pub words : (word : ℕ) → word < length t.words.items → IsWordBelow most (get_or t.words.items word untouched)
  pub needs : t.needs ≤ most
  pub memory : t.memory ≤ most
  pub stores : t.stores ≤ most
  pub time : t.time ≤ most

-- it follows the same task, and has counted as many turns
pub record IsSameTask (s t : Tracker) : Type 0 where
  pub task : t.task ≡ s.task
  pub turns : t.turns ≡ s.turns
  pub time : t.time ≡ s.time
  pub size : length t.words.items ≡ length s.words.items

-- a word was read
pub record HasRead (word : ℕ) (s t : Tracker) (ready : ℕ) : Type 0 where
  pub same : IsSameTask s t
  pub words : t.words.items ≡ slice_set s.words.items word (read_by s.task (get_or s.words.items word untouched)).word
  pub needs : t.needs ≡ s.needs + (read_by s.task (get_or s.words.items word untouched)).needs
  pub memory : t.memory ≡ s.memory + (read_by s.task (get_or s.words.items word untouched)).memory
  pub stores : t.stores ≡ s.stores
  pub nearest : t.nearest ≡ lesser (read_by s.task (get_or s.words.items word untouched)).distance s.nearest
  pub waits : ready ≡ (read_by s.task (get_or s.words.items word untouched)).ready

-- a word was written
pub record HasWritten (word : ℕ) (s t : Tracker) : Type 0 where
  pub same : IsSameTask s t
  pub words : t.words.items
      ≡ slice_set s.words.items word (written_by s.task s.time (get_or s.words.items word untouched)).word
  pub needs : t.needs ≡ s.needs
  pub memory : t.memory ≡ s.memory
  pub stores : t.stores ≡ s.stores + (written_by s.task s.time (get_or s.words.items word untouched)).stores
  pub nearest : t.nearest ≡ s.nearest

-- a word was read, if there is one
abbrev pub HasReadIf : Option ℕ → (s t : Tracker) → (ready : ℕ) → Type 0
HasReadIf None s t ready = (t ≡ s) × (ready ≡ 0)
HasReadIf (Some word) s t ready = HasRead word s t ready

-- a word was written, if there is one
abbrev pub HasWrittenIf : Option ℕ → (s t : Tracker) → Type 0
HasWrittenIf None s t = t ≡ s
HasWrittenIf (Some word) s t = HasWritten word s t

-- one turn more, which waited for this time
abbrev pub with_turn : (ready : ℕ) → Tracker → Tracker
with_turn ready s = record s { turns = s.turns + 1; time = max s.time ready + 1 }

-- the turns that follow one another, told of a tracker
pub record HasFollowed (s t : Tracker) : Type 0 where
  pub task : t.task ≡ s.task
  pub turns : t.turns ≡ s.turns + 1
  pub size : length t.words.items ≡ length s.words.items

-- the numbers of the task that it follows
abbrev pub told_of : (entry before : ℕ) → Tracker → TaskNeeds
told_of entry before t = record {
  task = t.task;
  entry = entry;
  turns = t.turns - before;
  needs = t.needs;
  memory = t.memory;
  nearest = t.nearest;
  stores = t.stores;
  chain = t.time;
}
