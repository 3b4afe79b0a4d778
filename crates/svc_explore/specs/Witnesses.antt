-- What shows an observation, and when nothing does.
use Rattle.std.specs.Prelude.{◌≡◌, ℕ, ◌⊎◌, List, [], ◌∷◌, Some, slice_get, take}
use Rattle.svc_base.specs.declared.config.Config.{Config}
use Rattle.svc_image.specs.Image.{Image}
use Rattle.svc_machine_laws.specs.Standing.{Standing, opened_at}
use Rattle.svc_history_laws.specs.declared.entry.Entry.{Entry}
use Rattle.svc_history_laws.specs.Legal.{LegalHistory}
use Rattle.svc_explore_laws.specs.declared.observation.Observation.{Observation}
use Rattle.svc_explore_laws.specs.Closed.{IsIn}
use Rattle.svc_explore_laws.specs.Moves.{Plays}
use Rattle.svc_explore_laws.specs.Observations.{observations}
use Rattle.svc_observations.specs.declared.sought.Sought.{Sought}
use Rattle.svc_observations.specs.Sought.{Matches}
use Rattle.svc_explore.specs.declared.found.Seen.{Seen}
use Rattle.svc_explore.specs.Found.{are_seen}

-- one of the entries of a play shows the observation
abbrev pub ShowsSight : (img : Image) (config : Config) (most : ℕ) (o : Observation) (s : Standing) (es : List Entry)
    → Plays img config most s es → Type 0
ShowsSight img config most o s [] play = ⊥
ShowsSight img config most o s (e ∷ es) play =
    IsIn o (observations s.plain e) ⊎ ShowsSight img config most o play.0 es play.2

-- a sound history that is a play and shows the observation
pub record IsWitness (img : Image) (config : Config) (most : ℕ) (o : Observation) (es : List Entry) : Type 0 where
  pub legal : LegalHistory img config es
  pub play : Plays img config most (opened_at img config 0) es
  pub shows : ShowsSight img config most o (opened_at img config 0) es play

-- no play shows anything that matches
abbrev pub ShowNoMatch : Image → Config → (most : ℕ) → Sought → Type 0
ShowNoMatch img config most sought =
    (o : Observation) → Matches sought o → (es : List Entry)
    → (play : Plays img config most (opened_at img config 0) es)
    → ShowsSight img config most o (opened_at img config 0) es play → ⊥

-- it is one of what was found, and none before it matches
pub record IsFirstMatch (sought : Sought) (seen : Seen) (found : List Seen) : Type 0 where
  pub index : ℕ
  pub there : slice_get found index ≡ Some seen
  pub before : (o : Observation) → IsIn o (are_seen (take index found)) → Matches sought o → ⊥
