-- Lists of keys that no move leads out of, where one key stands for all standings that differ in names of units.
use Rattle.std.specs.Prelude.{◌≡◌, ◌⊎◌, ℕ, ◌<◌, List}
use Rattle.svc_base.specs.declared.config.Config.{Config}
use Rattle.svc_image.specs.Image.{Image, IsImage}
use Rattle.svc_machine_laws.specs.Events.{Event}
use Rattle.svc_machine_laws.specs.Standing.{Standing, opened_at, standing_after}
use Rattle.svc_machine_laws.specs.Reached.{IsReached}
use Rattle.svc_explore_laws.specs.declared.observation.Observation.{Observation}
use Rattle.svc_explore_laws.specs.Moves.{HasRoom, Moves}
use Rattle.svc_explore_laws.specs.Futures.{HaveOneFuture}
use Rattle.svc_explore_laws.specs.Keys.{HaveOneKey}
use Rattle.svc_explore_laws.specs.Closed.{IsIn, IsFound, TellsKeys, HasNoMove, ShowNothingElse}
use Rattle.svc_renaming_laws.specs.Renamings.{Renaming, IsRenaming}
use Rattle.svc_renaming_laws.specs.Renamed.{renamed_standing}

-- standings with the same future still have it when the units of both are renamed
abbrev pub RenamedFutures : Type 0
RenamedFutures =
    (img : Image) (config : Config) (r : Renaming) (s t : Standing) → IsRenaming config.units r → IsReached img config s
    → IsReached img config t
    → HaveOneFuture img s t → HaveOneFuture img (renamed_standing r s) (renamed_standing r t)

-- the second standing has the key of the first one with its units renamed
pub record HaveOneKeyUpToNames (config : Config) (s t : Standing) : Type 0 where
  pub names : Renaming
  pub rename : IsRenaming config.units names
  pub same : HaveOneKey (renamed_standing names s) t

-- standings with one key still have one when the units of both are renamed
abbrev pub RenamedKeys : Type 0
RenamedKeys =
    (img : Image) (config : Config) (r : Renaming) (s t : Standing) → IsRenaming config.units r → IsReached img config s
    → IsReached img config t
    → HaveOneKey s t → HaveOneKey (renamed_standing r s) (renamed_standing r t)

-- keys that tell standings apart where their bits do, whatever the names. One standing may have more than one key,
-- since the names of its units may be chosen in more than one way
abbrev pub TellsUpToNames : Image → Config → {K : Type 0} → (Standing → K → Type 0) → Type 0
TellsUpToNames img config {K} has =
    (s t : Standing) (k : K) → IsReached img config s → IsReached img config t → has s k → has t k
    → HaveOneKeyUpToNames config s t

-- the key that a standing has by some names of its units
pub record HasNamedKey (config : Config) {K : Type 0} (key : Standing → K) (s : Standing) (k : K) : Type 0 where
  pub names : Renaming
  pub rename : IsRenaming config.units names
  pub key_is : k ≡ key (renamed_standing names s)

-- keys that tell standings apart where their bits do, taken by names of the units, tell them apart whatever the names.
-- So the names may be chosen in any way that is handy, as in the order of tasks
abbrev pub ChosenNamesTell : Type 0 → Type 0
ChosenNamesTell K = (img : Image) (config : Config) (key : Standing → K) → TellsKeys img config key
    → TellsUpToNames img config (HasNamedKey config key)

-- the unit has a move, what it shows was found, and where it leads has one of the keys
pub record IsFollowedUpToNames (img : Image) (config : Config) (most : ℕ) {K : Type 0} (has : Standing → K → Type 0)
    (keys : List K) (found : List Observation) (s : Standing) (unit : ℕ) : Type 0 where
  pub event : Event
  pub moves : Moves img config most s unit event
  pub found_is : IsFound img s event found
  pub key : K
  pub has_key : has (standing_after img s event) key
  pub listed : IsIn key keys

-- a standing with this key that has room, where the move of each unit that has one was followed
pub record AllExplored (img : Image) (config : Config) (most : ℕ) {K : Type 0} (has : Standing → K → Type 0)
    (keys : List K) (found : List Observation) (k : K) : Type 0 where
  pub standing : Standing
  pub reached : IsReached img config standing
  pub has_key : has standing k
  pub room : HasRoom config standing.plain
  pub move : (unit : ℕ) → unit < config.units → HasNoMove img config most standing unit
      ⊎ IsFollowedUpToNames img config most has keys found standing unit

-- a listed key of the opening
pub record IsOpeningListed (img : Image) (config : Config) {K : Type 0} (has : Standing → K → Type 0) (keys : List K)
    : Type 0 where
  pub key : K
  pub has_key : has (opened_at img config 0) key
  pub listed : IsIn key keys

-- the opening has one of the keys, and at each all units were explored
pub record IsClosedUpToNames (img : Image) (config : Config) (most : ℕ) {K : Type 0} (has : Standing → K → Type 0)
    (keys : List K) (found : List Observation) : Type 0 where
  pub opening : IsOpeningListed img config has keys
  pub each : (k : K) → IsIn k keys → AllExplored img config most has keys found k

-- THE CLOSED LIST, UP TO NAMES: where keys by names are closed, whatever units do and however long, all that an entry
-- of the history shows was found
abbrev pub ClosedUpToNamesLaw : Type 0 → Type 0
ClosedUpToNamesLaw K =
    (img : Image) → IsImage img → (config : Config) → (most : ℕ) → (key : Standing → K) → TellsKeys img config key
    → (keys : List K) (found : List Observation)
    → IsClosedUpToNames img config most (HasNamedKey config key) keys found → ShowNothingElse img config most found
