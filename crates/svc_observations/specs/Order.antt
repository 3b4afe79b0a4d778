-- The order in which observations are told: by what happened, then by task, word and value, where nothing comes first,
-- then by who or why.
use Rattle.std.specs.Prelude.{◌≡◌, ◌<◌, ◌+◌, ℕ, true, List, [], ◌∷◌, Option, Some, None, slice_get}
use Rattle.std.specs.Cmp.Lexicographic.{slice_cmp}
use Rattle.std.specs.Ordering.{is_lt, nat_cmp}
use Rattle.svc_explore_laws.specs.declared.observation.Happening.{Happening}
use Rattle.svc_explore_laws.specs.declared.observation.Happening.TheVariants as what
use Rattle.svc_explore_laws.specs.declared.observation.By.{By}
use Rattle.svc_explore_laws.specs.declared.observation.By.TheVariants as by
use Rattle.svc_explore_laws.specs.declared.observation.Observation.{Observation}

abbrev pub happening_place : Happening → ℕ
happening_place what.Begin = 0
happening_place what.Load = 1
happening_place what.Store = 2
happening_place what.Output = 3
happening_place what.Trap = 4
happening_place what.Replace = 5
happening_place what.Commit = 6
happening_place what.Squash = 7

-- nothing, then the numbers
abbrev pub number_place : Option ℕ → ℕ
number_place None = 0
number_place (Some n) = n + 1

abbrev pub by_place : Option By → ℕ
by_place None = 0
by_place (Some by.Hit) = 1
by_place (Some by.Reuse) = 2
by_place (Some (by.Version task)) = 3
by_place (Some by.Spill) = 4
by_place (Some by.Committed) = 5
by_place (Some by.Memory) = 6
by_place (Some by.Violation) = 7
by_place (Some by.Guess) = 8
by_place (Some by.Cancel) = 9

-- versions stand by their tasks
abbrev pub version_place : Option By → ℕ
version_place (Some (by.Version task)) = task
version_place _ = 0

-- what is compared, one number after another
abbrev pub places_of : Observation → List ℕ
places_of o = happening_place o.what ∷ o.task ∷ number_place o.word ∷ number_place o.value ∷ by_place o.by
    ∷ version_place o.by ∷ []

-- where two first differ, the one has less
abbrev pub ComesBefore : Observation → Observation → Type 0
ComesBefore o p = is_lt (slice_cmp nat_cmp (places_of o) (places_of p)) ≡ true

-- none stands after one before which it comes
abbrev pub AreInOrder : List Observation → Type 0
AreInOrder os = (i j : ℕ) (o p : Observation) → i < j → slice_get os i ≡ Some o → slice_get os j ≡ Some p
    → ComesBefore p o → ⊥
