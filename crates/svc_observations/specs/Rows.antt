-- The rows of observations.
use Rattle.std.specs.Prelude.{ℕ, List, [], ◌∷◌, ◌++◌, Option, None, Some, codes, decimal}
use Rattle.svc_text.specs.Rows.{row}
use Rattle.svc_explore_laws.specs.declared.observation.Happening.{Happening}
use Rattle.svc_explore_laws.specs.declared.observation.Happening.TheVariants as what
use Rattle.svc_explore_laws.specs.declared.observation.By.{By}
use Rattle.svc_explore_laws.specs.declared.observation.By.TheVariants as by
use Rattle.svc_explore_laws.specs.declared.observation.Observation.{Observation}
use Rattle.svc_observations.specs.declared.trace.Sighting.{Sighting}

abbrev pub name_of : Happening → List ℕ
name_of what.Begin = codes "begin"
name_of what.Load = codes "load"
name_of what.Store = codes "store"
name_of what.Output = codes "output"
name_of what.Trap = codes "trap"
name_of what.Replace = codes "replace"
name_of what.Commit = codes "commit"
name_of what.Squash = codes "squash"

-- who supplied the word, or why tasks were squashed; a version is named by the number of its task
abbrev pub reason_of : By → List ℕ
reason_of by.Hit = codes "hit"
reason_of by.Reuse = codes "reuse"
reason_of (by.Version task) = codes "version:" ++ decimal task
reason_of by.Spill = codes "spill"
reason_of by.Committed = codes "committed"
reason_of by.Memory = codes "memory"
reason_of by.Violation = codes "violation"
reason_of by.Guess = codes "guess"
reason_of by.Cancel = codes "cancel"

-- a field, which is empty where there is nothing
abbrev pub number_told : Option ℕ → List ℕ
number_told None = []
number_told (Some n) = decimal n

abbrev pub reason_told : Option By → List ℕ
reason_told None = []
reason_told (Some b) = reason_of b

abbrev pub task_text : Observation → List ℕ
task_text o = name_of o.what ++ codes "," ++ decimal o.task

abbrev pub numbers_text : Observation → List ℕ
numbers_text o = codes "," ++ number_told o.word ++ codes "," ++ number_told o.value

-- WHAT,TASK,WORD,VALUE,BY
abbrev pub sight_text : Observation → List ℕ
sight_text o = task_text o ++ numbers_text o ++ codes "," ++ reason_told o.by

-- the row of an observation, with the length of a schedule that shows it, or with the number of its entry
abbrev pub seen_row : Observation → (number : ℕ) → List ℕ
seen_row o number = (codes "seen," ++ sight_text o) ++ row [] (number ∷ [])

abbrev pub row_of_sighting : Sighting → List ℕ
row_of_sighting s = seen_row s.what s.entry
