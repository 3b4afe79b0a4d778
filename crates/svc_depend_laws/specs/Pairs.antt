-- What a task needs of another one.
use Rattle.std.specs.Prelude.{ℕ, ◌&&◌, ◌==◌, Bool, false, List, Option, Some, None}
use Rattle.std.specs.List.{filter, range_with_len}
use Rattle.svc_core_laws.specs.Program.{Program, exposed_words, task_log}
use Rattle.svc_depend_laws.specs.Needs.{comes_from}

-- whether a word that comes from there comes from this task
abbrev pub is_from : (on : ℕ) → Option ℕ → Bool
is_from on None = false
is_from on (Some from) = from == on

-- where a task exposes these words: whether this one is one of them and comes from that task
abbrev pub is_needed_of : {C : Type 0} → Program C → (task : ℕ) → (exposes : ℕ → Bool) → (on word : ℕ) → Bool
is_needed_of p task exposes on word = exposes word && is_from on (comes_from p task word)

-- the words that a task needs of another one, among the first so many, in their order
abbrev pub words_of : {C : Type 0} → Program C → (words task on : ℕ) → List ℕ
words_of p words task on = filter (is_needed_of p task (exposed_words (task_log p task)) on) (range_with_len 0 words)
