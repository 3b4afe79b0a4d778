-- What can be seen from a standing.
use Rattle.std.specs.Prelude.{◌≡◌, ℕ, List, [], ◌∷◌, Some, slice_get}
use Rattle.svc_base.specs.declared.config.Config.{Config}
use Rattle.svc_image.specs.Image.{Image}
use Rattle.svc_machine_laws.specs.Standing.{Standing}
use Rattle.svc_history_laws.specs.declared.entry.Entry.{Entry}
use Rattle.svc_explore_laws.specs.declared.observation.Observation.{Observation}
use Rattle.svc_explore_laws.specs.Moves.{Plays}
use Rattle.svc_explore_laws.specs.Observations.{observations}
use Rattle.svc_explore_laws.specs.Closed.{IsIn}

-- what each entry of a play shows, one after another
abbrev pub sights : (img : Image) (config : Config) (most : ℕ) (s : Standing) (es : List Entry)
    → Plays img config most s es → List (List Observation)
sights img config most s [] play = []
sights img config most s (e ∷ es) play = observations s.plain e ∷ sights img config most play.0 es play.2

-- some play from here has an entry that shows it
pub record CanBeSeen (img : Image) (config : Config) (most : ℕ) (s : Standing) (o : Observation) : Type 0 where
  pub entries : List Entry
  pub play : Plays img config most s entries
  pub index : ℕ
  pub sight : List Observation
  pub sight_is : slice_get (sights img config most s entries play) index ≡ Some sight
  pub shows : IsIn o sight
