-- What a search has seen.
use Rattle.std.specs.Prelude.{◌≡◌, ◌⊎◌, ℕ, [], ◌∷◌, ◌++◌, Some, None, List, Option, map, vec_items, slice_get}
use Rattle.std.specs.List.{AllByRecursion}
use Rattle.svc_base.specs.declared.config.Config.{Config}
use Rattle.svc_base.specs.declared.ids.UnitId.{UnitId}
use Rattle.svc_image.specs.Image.{Image}
use Rattle.svc_explore_laws.specs.declared.observation.Observation.{Observation}
use Rattle.svc_explore_laws.specs.Closed.{IsIn}
use Rattle.svc_explore.specs.declared.found.Seen.{Seen}
use Rattle.svc_explore.specs.Tries.{Shows}

-- without the schedules
abbrev pub are_seen : List Seen → List Observation
are_seen seen = map (λ (s : Seen). s.what) seen

-- none twice
abbrev pub AreOnce : {A : Type 0} → List A → Type 0
AreOnce {A} xs = (i j : ℕ) (x : A) → slice_get xs i ≡ Some x → slice_get xs j ≡ Some x → i ≡ j

-- the observation is shown by its schedule
abbrev pub IsShown : Image → Config → (most : ℕ) → Seen → Type 0
IsShown img config most s = Shows img config most (vec_items s.path) s.last.0 s.what

-- each observation stands there once, with a schedule that shows it
pub record AreWitnessed (img : Image) (config : Config) (most : ℕ) (seen : List Seen) : Type 0 where
  pub once : AreOnce (are_seen seen)
  pub shown : AllByRecursion (IsShown img config most) seen

-- an observation that wasn't seen before, with the schedule that shows it
pub record IsNewlySeen (old new : List Seen) (what : Observation) (path : List UnitId) (last : UnitId) : Type 0 where
  pub seen : Seen
  pub appended : new ≡ old ++ seen ∷ []
  pub what_is : seen.what ≡ what
  pub path_is : vec_items seen.path ≡ path
  pub last_is : seen.last ≡ last
  pub fresh : IsIn what (are_seen old) → ⊥

-- nothing changes, or what was seen is new
abbrev pub AddsSeen : (old new : List Seen) → Option Observation → (path : List UnitId) → (last : UnitId) → Type 0
AddsSeen old new None path last = new ≡ old
AddsSeen old new (Some what) path last = (new ≡ old) ⊎ IsNewlySeen old new what path last
