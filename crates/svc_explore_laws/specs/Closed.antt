-- Lists of keys that no move leads out of.
use Rattle.std.specs.Prelude.{◌≡◌, ◌⊎◌, ℕ, ◌<◌, Some, List, [], ◌∷◌, slice_get}
use Rattle.std.specs.List.{AllByRecursion}
use Rattle.svc_base.specs.declared.config.Config.{Config}
use Rattle.svc_image.specs.Image.{Image}
use Rattle.svc_machine_laws.specs.Events.{Event}
use Rattle.svc_machine_laws.specs.Standing.{Standing, standing_after, reply_to, opened_at}
use Rattle.svc_machine_laws.specs.Reached.{IsReached}
use Rattle.svc_history_laws.specs.declared.entry.Entry.{Entry}
use Rattle.svc_history_laws.specs.Entries.{entry_of}
use Rattle.svc_explore_laws.specs.declared.observation.Observation.{Observation}
use Rattle.svc_explore_laws.specs.Moves.{Moves, Plays, HasRoom}
use Rattle.svc_explore_laws.specs.Observations.{observations}
use Rattle.svc_explore_laws.specs.Keys.{HaveOneKey}

-- one of the list
abbrev pub IsIn : {A : Type 0} → A → List A → Type 0
IsIn x xs = (i : ℕ) × (slice_get xs i ≡ Some x)

-- each one is one of the list
abbrev pub AreIn : {A : Type 0} → List A → List A → Type 0
AreIn xs ys = AllByRecursion (λ x. IsIn x ys) xs

-- what an event at a standing shows was found
abbrev pub IsFound : Image → Standing → Event → (found : List Observation) → Type 0
IsFound img s x found = AreIn (observations s.plain (entry_of x (reply_to img s x))) found

-- keys that tell standings apart where their bits do
abbrev pub TellsKeys : Image → Config → {K : Type 0} → (Standing → K) → Type 0
TellsKeys img config key =
    (s t : Standing) → IsReached img config s → IsReached img config t → key s ≡ key t → HaveOneKey s t

-- the unit has no move that is accepted
abbrev pub HasNoMove : Image → Config → (most : ℕ) → Standing → (unit : ℕ) → Type 0
HasNoMove img config most s unit = (x : Event) → Moves img config most s unit x → ⊥

-- the unit has a move, what it shows was found, and it leads to one of the keys
pub record IsFollowed (img : Image) (config : Config) (most : ℕ) {K : Type 0} (key : Standing → K) (keys : List K)
    (found : List Observation) (s : Standing) (unit : ℕ) : Type 0 where
  pub event : Event
  pub moves : Moves img config most s unit event
  pub found_is : IsFound img s event found
  pub leads : IsIn (key (standing_after img s event)) keys

-- a standing with this key that has room, where the unit has no move or its move was followed
pub record IsExplored (img : Image) (config : Config) (most : ℕ) {K : Type 0} (key : Standing → K) (keys : List K)
    (found : List Observation) (k : K) (unit : ℕ) : Type 0 where
  pub standing : Standing
  pub reached : IsReached img config standing
  pub has_key : key standing ≡ k
  pub room : HasRoom config standing.plain
  pub move : HasNoMove img config most standing unit ⊎ IsFollowed img config most key keys found standing unit

-- the opening has one of the keys, and at each all units were explored
pub record IsClosed (img : Image) (config : Config) (most : ℕ) {K : Type 0} (key : Standing → K) (keys : List K)
    (found : List Observation) : Type 0 where
  pub opening : IsIn (key (opened_at img config 0)) keys
  pub each : (k : K) → IsIn k keys → (unit : ℕ) → unit < config.units → IsExplored img config most key keys found k unit

-- what each entry of a play shows was found
abbrev pub ShowsFound : (img : Image) (config : Config) (most : ℕ) (found : List Observation) (s : Standing)
    (es : List Entry) → Plays img config most s es → Type 0
ShowsFound img config most found s [] play = Unit {0}
ShowsFound img config most found s (e ∷ es) play =
    AreIn (observations s.plain e) found × ShowsFound img config most found play.0 es play.2

-- every play shows nothing else
abbrev pub ShowNothingElse : Image → Config → (most : ℕ) → (found : List Observation) → Type 0
ShowNothingElse img config most found =
    (es : List Entry) → (play : Plays img config most (opened_at img config 0) es)
    → ShowsFound img config most found (opened_at img config 0) es play
