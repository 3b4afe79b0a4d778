-- The rows of an exploration.
use Rattle.std.specs.Prelude.{ℕ, ◌+◌, List, [], ◌∷◌, ◌++◌, Bool, if◌then◌else◌, Option, None, Some, codes, flat_map}
use Rattle.std.specs.Prelude.{length, vec_items}
use denote.Ref.{Bor}
use Rattle.svc_text.specs.Rows.{row}
use Rattle.svc_observations.specs.Rows.{seen_row}
use Rattle.svc_explore.specs.declared.found.Seen.{Seen}
use Rattle.svc_explore.specs.declared.walk.Exploration.{Exploration}

-- the moves of a schedule, with the one that shows it
abbrev pub steps_of : Seen → ℕ
steps_of s = length (vec_items s.path) + 1

abbrev pub row_of : Seen → List ℕ
row_of s = seen_row s.what (steps_of s)

abbrev pub rows_of : List Seen → List ℕ
rows_of seen = flat_map row_of seen

-- whether a limit was met
abbrev pub yes_or_no : Bool → List ℕ
yes_or_no whole = if whole then codes "yes" else codes "no"

-- how far the exploration went
abbrev pub totals_text : (states moves deepest : ℕ) → (whole : Bool) → List ℕ
totals_text states moves deepest whole =
    row (codes "states") (states ∷ []) ++ row (codes "moves") (moves ∷ []) ++ row (codes "deepest") (deepest ∷ [])
    ++ (codes "whole," ++ yes_or_no whole ++ codes "\n")

-- the row of an observation, if there is one
abbrev pub found_row : Option (Bor Seen) → List ℕ
found_row None = []
found_row (Some seen) = row_of seen.now

-- all that is told: the observations in this order
abbrev pub exploration_text : Exploration → List ℕ
exploration_text x = totals_text x.states x.moves x.deepest x.whole ++ rows_of x.found.items

-- what is told of one observation that was looked for, if it was found
abbrev pub finding_text : Exploration → Option (Bor Seen) → List ℕ
finding_text x seen = totals_text x.states x.moves x.deepest x.whole ++ found_row seen
