-- The numbers that are told of tasks, as code keeps them.
use Rattle.std.specs.Prelude.{◌≡◌, ℕ, ◌+◌, ◌*◌, ◌^◌, ◌<◌, ◌≤◌, max, List, length, get_or, None, unwrap_or}
use Rattle.svc_image.specs.Image.{Image}
use Rattle.svc_core_laws.specs.Program.{seq}
use Rattle.svc_core_laws.specs.Turns.{data_words}
use Rattle.svc_core_laws.specs.Words.{program}
use Rattle.svc_depend_laws.specs.Chain.{chain}
use Rattle.svc_depend_laws.specs.Counts.{needs, memory_needs, nearest, stores, readers, writers, nearest_of_word}
use Rattle.svc_depend_laws.specs.Over.{lesser, sum_over, least_over, greatest_over}
use Rattle.svc_depend_laws.specs.Turns.{turns}
use Rattle.svc_depend.specs.declared.needs.TaskNeeds.{TaskNeeds}
use Rattle.svc_depend.specs.declared.needs.Totals.{Totals}
use Rattle.svc_depend.specs.declared.word.Word.{Word}
use Rattle.svc_depend.specs.Words.{untouched}

-- what the task of this number needs
abbrev pub task_needs : Image → (task : ℕ) → TaskNeeds
task_needs img task = record {
  task = task;
  entry = unwrap_or (seq (program img) task).due 0;
  turns = turns (program img) task;
  needs = needs (program img) (data_words img) task;
  memory = memory_needs (program img) (data_words img) task;
  nearest = nearest (program img) (data_words img) task;
  stores = stores (program img) (data_words img) task;
  chain = chain (program img) task;
}

-- what the first so many tasks need together
abbrev pub totals : Image → (tasks : ℕ) → Totals
totals img tasks = record {
  turns = sum_over (turns (program img)) tasks;
  needs = sum_over (needs (program img) (data_words img)) tasks;
  memory = sum_over (memory_needs (program img) (data_words img)) tasks;
  nearest = least_over (nearest (program img) (data_words img)) tasks;
  chain = greatest_over (chain (program img)) tasks;
}

-- what the first so many tasks did with the words
pub record AreWords (img : Image) (tasks : ℕ) (words : List Word) : Type 0 where
  pub size : length words ≡ data_words img
  pub readers_are : (word : ℕ) → word < length words
      → (get_or words word untouched).readers ≡ readers (program img) tasks word
  pub writers_are : (word : ℕ) → word < length words
      → (get_or words word untouched).writers ≡ writers (program img) tasks word
  pub nearest_is : (word : ℕ) → word < length words
      → (get_or words word untouched).nearest ≡ nearest_of_word (program img) tasks word

-- ---- totals, task by task

abbrev pub nothing_yet : Totals
nothing_yet = record { turns = 0; needs = 0; memory = 0; nearest = None; chain = 0 }

abbrev pub added : TaskNeeds → Totals → Totals
added task t = record {
  turns = t.turns + task.turns;
  needs = t.needs + task.needs;
  memory = t.memory + task.memory;
  nearest = lesser task.nearest t.nearest;
  chain = max task.chain t.chain;
}

-- numbers of a task that can be added
pub record IsFew (task : TaskNeeds) : Type 0 where
  pub turns : task.turns ≤ 2 ^ 40
  pub needs : task.needs ≤ 2 ^ 40
  pub memory : task.memory ≤ 2 ^ 40

-- totals to which those of a task can be added
pub record AreFew (t : Totals) : Type 0 where
  pub turns : t.turns < 2 ^ 62
  pub needs : t.needs < 2 ^ 62
  pub memory : t.memory < 2 ^ 62

-- totals of so many tasks
pub record AreOf (tasks : ℕ) (t : Totals) : Type 0 where
  pub turns : t.turns ≤ tasks * 2 ^ 40
  pub needs : t.needs ≤ tasks * 2 ^ 40
  pub memory : t.memory ≤ tasks * 2 ^ 40
