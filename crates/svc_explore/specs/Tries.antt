-- What a unit's move tells, where it was tried.
use Rattle.std.specs.Prelude.{◌≡◌, ℕ, ◌++◌, ◌∷◌, [], List, Option, option_to_list, vec_items}
use Rattle.std.specs.List.{AllByRecursion}
use Rattle.svc_base.specs.declared.config.Config.{Config}
use Rattle.svc_image.specs.Image.{Image}
use Rattle.svc_base.specs.declared.ids.UnitId.{UnitId}
use Rattle.svc_machine_laws.specs.Events.{Event}
use Rattle.svc_machine_laws.specs.Standing.{Standing, opened_at, reply_to}
use Rattle.svc_history_laws.specs.Entries.{entry_of}
use Rattle.svc_explore_laws.specs.Moves.{Moves}
use Rattle.svc_explore.specs.Recorders.{HasMoved, Leads}
use Rattle.svc_explore_laws.specs.declared.observation.Observation.{Observation}
use Rattle.svc_explore_laws.specs.Observations.{observations}
use Rattle.svc_history.specs.Recorded.{Recorded, standing_of}
use Rattle.svc_explore_laws.specs.Closed.{IsIn, AreIn, HasNoMove}
use Rattle.svc_explore.specs.declared.search.Tried.{Tried}
use Rattle.svc_explore.specs.declared.search.Tried.TheVariants as tried
use Rattle.svc_explore.specs.KeyWords.{HasKey}
use Rattle.svc_explore.specs.Search.{IsExploredBy}

-- one or both of these
abbrev pub both : Option Observation → Option Observation → List Observation
both happened squashed = option_to_list happened ++ option_to_list squashed

-- the move that was made, what it shows, and the key of where it leads
pub record IsMovedTo (most : ℕ) (r : Recorded) (unit : ℕ) (sights : List Observation) (key : List ℕ) : Type 0 where
  pub new : Recorded
  pub moved : HasMoved most r new unit
  pub sights_are : sights
      ≡ observations (standing_of r).plain (entry_of moved.event (reply_to r.machine.image (standing_of r) moved.event))
  pub has_key : HasKey new.machine.image new.machine.config (standing_of new) key

-- what the unit of a recorder did
abbrev pub IsTried : (most : ℕ) → Recorded → (unit : ℕ) → Tried → Type 0
IsTried most r unit tried.Off = Unit {0}
IsTried most r unit tried.Rests = HasNoMove r.machine.image r.machine.config most (standing_of r) unit
IsTried most r unit (tried.Moves happened squashed next) =
    IsMovedTo most r unit (both happened squashed) (vec_items next)

-- the schedule was not followed to its end
abbrev pub IsOff : Tried → Type 0
IsOff tried.Off = Unit {0}
IsOff tried.Rests = ⊥
IsOff (tried.Moves happened squashed next) = ⊥

-- where the schedule leads the unit was explored, in each list of observations that has what its move shows, and each
-- of keys that has one of where that leads
abbrev pub TriedBy : Image → Config → (most : ℕ) → List UnitId → (unit : ℕ) → Tried → Type 0
TriedBy img config most path unit tried.Off = Unit {0}
TriedBy img config most path unit tried.Rests =
    (keys : List (List ℕ)) (found : List Observation) → IsExploredBy img config most keys found path unit
TriedBy img config most path unit (tried.Moves happened squashed next) =
    (keys : List (List ℕ)) (found : List Observation) → AreIn (both happened squashed) found
    → IsIn (vec_items next) keys → IsExploredBy img config most keys found path unit

-- the schedule leads to where the unit's move shows this
pub record Shows (img : Image) (config : Config) (most : ℕ) (path : List UnitId) (unit : ℕ)
    (o : Observation) : Type 0 where
  pub standing : Standing
  pub leads : Leads img config most (opened_at img config 0) path standing
  pub event : Event
  pub moves : Moves img config most standing unit event
  pub seen : IsIn o (observations standing.plain (entry_of event (reply_to img standing event)))

-- the schedule leads to a standing with this key
pub record LeadsToKey (img : Image) (config : Config) (most : ℕ) (path : List UnitId) (key : List ℕ) : Type 0 where
  pub standing : Standing
  pub leads : Leads img config most (opened_at img config 0) path standing
  pub has_key : HasKey img config standing key

-- where the unit has moved, the schedule and the unit show what is seen, and lead to the key
abbrev pub ShowsIt : Image → Config → (most : ℕ) → (path : List UnitId) → (unit : UnitId) → Tried → Type 0
ShowsIt img config most path unit tried.Off = Unit {0}
ShowsIt img config most path unit tried.Rests = Unit {0}
ShowsIt img config most path unit (tried.Moves happened squashed next) =
    AllByRecursion (Shows img config most path unit.0) (both happened squashed)
    × LeadsToKey img config most (path ++ unit ∷ []) (vec_items next)
