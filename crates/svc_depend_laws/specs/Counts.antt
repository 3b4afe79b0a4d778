-- How much the tasks of a program need of one another, in numbers.
use Rattle.std.specs.Prelude.{ℕ, ◌-◌, ◌&&◌, Bool, cond, Option, Some, None, is_none, is_some}
use Rattle.svc_core_laws.specs.Program.{Program, Words, wrote, exposed_words, task_log}
use Rattle.svc_depend_laws.specs.Needs.{comes_from}
use Rattle.svc_depend_laws.specs.Over.{count_over, least_over}

-- how far before this task another one is
abbrev pub back_to : (task : ℕ) → Option ℕ → Option ℕ
back_to task None = None
back_to task (Some from) = Some (task - from)

-- where a task exposes these words: how far back this one comes from, if it is one of them and comes from a task
abbrev pub distance_in : {C : Type 0} → Program C → (task : ℕ) → (exposes : ℕ → Bool) → (word : ℕ) → Option ℕ
distance_in p task exposes word = cond (exposes word) (back_to task (comes_from p task word)) None

abbrev pub distance : {C : Type 0} → Program C → (task word : ℕ) → Option ℕ
distance p task word = distance_in p task (exposed_words (task_log p task)) word

-- whether it is one of them and comes from no task
abbrev pub is_from_memory : {C : Type 0} → Program C → (task : ℕ) → (exposes : ℕ → Bool) → (word : ℕ) → Bool
is_from_memory p task exposes word = exposes word && is_none (comes_from p task word)

abbrev pub is_written : Words → (word : ℕ) → Bool
is_written words word = is_some (words word)

-- ---- of a task, among the first so many words

-- the words that it needs
abbrev pub needs : {C : Type 0} → Program C → (words task : ℕ) → ℕ
needs p words task = count_over (exposed_words (task_log p task)) words

-- those of them that come from no task
abbrev pub memory_needs : {C : Type 0} → Program C → (words task : ℕ) → ℕ
memory_needs p words task = count_over (is_from_memory p task (exposed_words (task_log p task))) words

-- the words that it writes
abbrev pub stores : {C : Type 0} → Program C → (words task : ℕ) → ℕ
stores p words task = count_over (is_written (wrote (task_log p task))) words

-- the least distance to a task from which one of them comes
abbrev pub nearest : {C : Type 0} → Program C → (words task : ℕ) → Option ℕ
nearest p words task = least_over (distance p task) words

-- ---- of a word, among the first so many tasks

-- the tasks that need it
abbrev pub readers : {C : Type 0} → Program C → (tasks word : ℕ) → ℕ
readers p tasks word = count_over (λ task. exposed_words (task_log p task) word) tasks

-- the tasks that write it
abbrev pub writers : {C : Type 0} → Program C → (tasks word : ℕ) → ℕ
writers p tasks word = count_over (λ task. is_written (wrote (task_log p task)) word) tasks

-- the least distance from a task that needs it to the one from which it comes
abbrev pub nearest_of_word : {C : Type 0} → Program C → (tasks word : ℕ) → Option ℕ
nearest_of_word p tasks word = least_over (λ task. distance p task word) tasks
