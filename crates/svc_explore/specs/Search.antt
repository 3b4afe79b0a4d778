-- What a search has found so far.
use Rattle.std.specs.Prelude.{◌≡◌, ◌⊎◌, ℕ, ◌<◌, ◌≤◌, Some, List, Vec, length, map, vec_items, slice_get}
use Rattle.std.specs.declared.alloc.Global.{Global}
use Rattle.svc_base.specs.declared.config.Config.{Config}
use Rattle.svc_image.specs.Image.{Image}
use Rattle.svc_machine_laws.specs.Standing.{Standing, opened_at}
use Rattle.svc_base.specs.declared.ids.UnitId.{UnitId}
use Rattle.svc_explore_laws.specs.declared.observation.Observation.{Observation}
use Rattle.svc_machine_laws.specs.Reached.{IsReached}
use Rattle.svc_explore_laws.specs.Moves.{HasRoom}
use Rattle.svc_explore_laws.specs.Closed.{HasNoMove}
use Rattle.svc_renaming_laws.specs.ClosedUpToNames.{IsFollowedUpToNames, IsOpeningListed}
use Rattle.svc_explore.specs.KeyWords.{HasKey}
use Rattle.svc_explore.specs.Recorders.{GaveFew, Leads, LeadsOnly}
use Rattle.svc_history.specs.Recorded.{Recorded, standing_of}

-- the second list has what the first one has, at the same places
abbrev pub GrowsTo : {A : Type 0} → List A → List A → Type 0
GrowsTo {A} xs ys = (i : ℕ) (x : A) → slice_get xs i ≡ Some x → slice_get ys i ≡ Some x

-- a key, with the schedule that led there first
abbrev pub Place : Type 0
Place = Vec ℕ Global × Vec UnitId Global

abbrev pub key_at : Place → List ℕ
key_at e = vec_items e.0

abbrev pub path_at : Place → List UnitId
path_at e = vec_items e.1

-- the keys as lists, without the schedules that lead there
abbrev pub are_keys : List Place → List (List ℕ)
are_keys = map key_at

-- the recorder stands where the schedule leads, and nowhere else does that lead
pub record IsLedBy (most : ℕ) (path : List UnitId) (r : Recorded) : Type 0 where
  pub few : GaveFew (standing_of r)
  pub short : (standing_of r).plain.accepted ≤ length path
  pub leads :
      Leads r.machine.image r.machine.config most (opened_at r.machine.image r.machine.config 0) path (standing_of r)
  pub only : LeadsOnly r.machine.image r.machine.config most path (standing_of r)

-- it stands where the schedule of the key of this index leads
abbrev pub IsLedThere : (most : ℕ) → List Place → (index : ℕ) → Recorded → Type 0
IsLedThere most places index r = (e : Place) → slice_get places index ≡ Some e → IsLedBy most (path_at e) r

-- from here, with room for its move, the unit has none, or its move was followed
pub record IsExploredFrom (img : Image) (config : Config) (most : ℕ) (keys : List (List ℕ)) (found : List Observation)
    (s : Standing) (unit : ℕ) : Type 0 where
  pub reached : IsReached img config s
  pub room : HasRoom config s.plain
  pub move : HasNoMove img config most s unit
      ⊎ IsFollowedUpToNames img config most (HasKey img config) keys found s unit

-- wherever the schedule leads
abbrev pub IsExploredBy : Image → Config → (most : ℕ) → List (List ℕ) → List Observation → List UnitId → (unit : ℕ)
    → Type 0
IsExploredBy img config most keys found path unit =
    (s : Standing) → Leads img config most (opened_at img config 0) path s
    → IsExploredFrom img config most keys found s unit

-- the unit was explored where the schedule of the key of this index leads
abbrev pub IsExploredAt : Image → Config → (most : ℕ) → List Place → List Observation → (index unit : ℕ) → Type 0
IsExploredAt img config most places found index unit =
    (e : Place) → slice_get places index ≡ Some e
    → IsExploredBy img config most (are_keys places) found (path_at e) unit

-- all units were explored at the first so many keys, one of which is that of the opening
pub record IsPartlyClosed (img : Image) (config : Config) (most : ℕ) (places : List Place) (found : List Observation)
    (count : ℕ) : Type 0 where
  pub opening : IsOpeningListed img config (HasKey img config) (are_keys places)
  pub each : (index : ℕ) → index < count → (unit : ℕ) → unit < config.units
      → IsExploredAt img config most places found index unit
