-- What is looked for among observations.
use Rattle.std.specs.Prelude.{◌≡◌, ℕ, List, [], ◌++◌, Option, Some, None, IfSome, codes, decimal}
use Rattle.svc_explore_laws.specs.declared.observation.Observation.{Observation}
use Rattle.svc_observations.specs.declared.sought.Sought.{Sought}
use Rattle.svc_observations.specs.Rows.{name_of}

-- the observation is of what happened, and of the task and the word where these are given
pub record Matches (sought : Sought) (o : Observation) : Type 0 where
  pub what : o.what ≡ sought.what
  pub task : IfSome sought.task (λ task. o.task ≡ task)
  pub word : IfSome sought.word (λ word. o.word ≡ Some word)

-- an empty field, or the number; none at the end
abbrev pub task_sought : Option ℕ → Option ℕ → List ℕ
task_sought None None = []
task_sought None (Some word) = codes ","
task_sought (Some task) word = codes "," ++ decimal task

abbrev pub word_sought : Option ℕ → List ℕ
word_sought None = []
word_sought (Some word) = codes "," ++ decimal word

-- WHAT, WHAT,TASK or WHAT,TASK,WORD, where an empty TASK is any
abbrev pub sought_text : Sought → List ℕ
sought_text s = (name_of s.what ++ task_sought s.task s.word) ++ word_sought s.word
