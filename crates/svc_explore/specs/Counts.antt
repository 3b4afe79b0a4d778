-- How far a search went, told by the keys that it met.
use Rattle.std.specs.Prelude.{◌≡◌, ◌⊎◌, ℕ, ◌+◌, ◌*◌, ◌≤◌, ◌<◌, [], ◌∷◌, ◌++◌, IsTrue, IsFalse, Some, List, Vec, length}
use Rattle.std.specs.Prelude.{vec_items, slice_get}
use Rattle.std.specs.declared.alloc.Global.{Global}
use Rattle.std.specs.List.{AllByRecursion}
use Rattle.svc_base.specs.declared.config.Config.{Config}
use Rattle.svc_base.specs.declared.ids.UnitId.{UnitId}
use Rattle.svc_image.specs.Image.{Image}
use Rattle.svc_explore_laws.specs.Closed.{IsIn}
use Rattle.svc_renaming_laws.specs.ClosedUpToNames.{IsClosedUpToNames}
use Rattle.svc_explore.specs.KeyWords.{HasKey}
use Rattle.svc_explore.specs.declared.walk.Exploration.{Exploration}
use Rattle.svc_explore.specs.declared.walk.Search.{Search}
use Rattle.svc_explore.specs.Found.{AreOnce, AreWitnessed, are_seen}
use Rattle.svc_explore.specs.Search.{Place, are_keys, key_at, path_at}
use Rattle.svc_explore.specs.Tries.{LeadsToKey}

-- the schedule leads to the key
abbrev pub IsMet : Image → Config → (most : ℕ) → Place → Type 0
IsMet img config most e = LeadsToKey img config most (path_at e) (key_at e)

-- no key stands there twice, and to each its schedule leads
pub record AreMet (img : Image) (config : Config) (most : ℕ) (places : List Place) : Type 0 where
  pub once : AreOnce (are_keys places)
  pub each : AllByRecursion (IsMet img config most) places

-- nothing changes, or a key that wasn't there comes last, with its schedule
abbrev pub AddsPlace : (old new : List Place) → (key : Vec ℕ Global) → (path : Vec UnitId Global) → Type 0
AddsPlace old new key path = (new ≡ old) ⊎ ((new ≡ old ++ (key, path) ∷ []) × (IsIn (vec_items key) (are_keys old) → ⊥))

-- the schedule of the key at this index has so many moves
abbrev pub IsDepth : List Place → (index moves : ℕ) → Type 0
IsDepth places index moves = (e : Place) → slice_get places index ≡ Some e → length (path_at e) ≡ moves

-- the longest of the schedules has so many moves
pub record IsLongest (moves : ℕ) (places : List Place) : Type 0 where
  pub bound : (i : ℕ) (e : Place) → slice_get places i ≡ Some e → length (path_at e) ≤ moves
  pub index : ℕ
  pub place : Place
  pub there : slice_get places index ≡ Some place
  pub is : length (path_at place) ≡ moves

-- what a search has found so far: each key and each observation with its schedule, and no key but the first without a
-- move. Its units move in a recorder of the image and the configuration.
pub record IsSound (img : Image) (config : Config) (most : ℕ) (s : Search) : Type 0 where
  pub witnessed : AreWitnessed img config most s.found.items
  pub met : AreMet img config most s.keys.entries
  pub moved : length s.keys.entries ≤ s.moves + 1
  pub mover_image : s.mover.machine.image ≡ img
  pub mover_config : s.mover.machine.config ≡ config

-- how far an exploration went, told by the keys that it met and that are closed where it was whole
pub record IsTold (img : Image) (config : Config) (most : ℕ) (x : Exploration) : Type 0 where
  pub places : List Place
  pub met : AreMet img config most places
  pub closed : IsTrue x.whole
      → IsClosedUpToNames img config most (HasKey img config) (are_keys places) (are_seen x.found.items)
  pub states : x.states ≡ length places
  pub deepest : IsLongest x.deepest places
  pub least_moves : x.states ≤ x.moves + 1
  pub most_moves : x.moves ≤ x.states * config.units

-- one of the schedules has as many moves as events may be accepted
pub record HasFull (config : Config) (places : List Place) : Type 0 where
  pub index : ℕ
  pub place : Place
  pub there : slice_get places index ≡ Some place
  pub full : config.events ≤ length (path_at place)

-- a whole exploration is of no more standings than may be explored; and one that isn't whole has met a limit: it told
-- more standings apart than that, or one of its schedules has as many moves as events may be accepted
pub record KeepsLimits (config : Config) (limit : ℕ) (x : Exploration) : Type 0 where
  pub within : IsTrue x.whole → x.states ≤ limit
  pub met : IsFalse x.whole → (limit < x.states) ⊎ (config.events ≤ x.deepest)
