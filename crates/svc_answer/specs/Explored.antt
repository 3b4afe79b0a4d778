-- What the program prints of all schedules of an image.
use Rattle.std.specs.Prelude.{◌≡◌, ℕ, List, Option, None, Some, IsTrue, cond, is_some}
use denote.Ref.{Bor}
use Rattle.std.specs.Io.KnownBytes.{Appends}
use Rattle.svc_base.specs.declared.config.Config.{Config}
use Rattle.svc_image.specs.Image.{Image}
use Rattle.svc_history_laws.specs.declared.entry.Entry.{Entry}
use Rattle.svc_explore_laws.specs.declared.observation.Observation.{Observation}
use Rattle.svc_explore_laws.specs.Closed.{ShowNothingElse}
use Rattle.svc_explore.specs.declared.found.Seen.{Seen}
use Rattle.svc_observations.specs.declared.sought.Sought.{Sought}
use Rattle.svc_explore.specs.declared.walk.Exploration.{Exploration}
use Rattle.svc_explore.specs.Counts.{IsTold, KeepsLimits}
use Rattle.svc_explore.specs.Found.{AreWitnessed, are_seen}
use Rattle.svc_observations.specs.Order.{AreInOrder}
use Rattle.svc_explore.specs.Rows.{exploration_text, finding_text}
use Rattle.svc_explore.specs.Witnesses.{IsFirstMatch, IsWitness, ShowNoMatch}
use Rattle.svc_observations.specs.Sought.{Matches}
use Rattle.svc_names.specs.declared.names.Names.{Names}
use Rattle.svc_names.specs.declared.rows.Rows.TheVariants as rows
use Rattle.svc_names.specs.Given.{listed, told_with}
use Rattle.svc_request.specs.declared.request.Explored.{Explored}

-- an exploration of all schedules by bursts of at most so many turns: each observation is in its place with a schedule
-- that shows it; where it is whole no schedule shows anything else, and where it isn't, it has met the limit of
-- standings or that of events
pub record IsExplorationOf (img : Image) (config : Config) (burst limit : ℕ) (found : Exploration) : Type 0 where
  pub whole : IsTrue found.whole → ShowNothingElse img config burst (are_seen found.found.items)
  pub witnessed : AreWitnessed img config burst found.found.items
  pub order : AreInOrder (are_seen found.found.items)
  pub told : IsTold img config burst found
  pub limits : KeepsLimits config limit found

-- the rows of one were printed with the names that are given, and the exit status says whether it was whole
pub record TellsSchedules (names : Option (Bor Names)) (img : Image) (config : Config) (burst limit : ℕ)
    (old new : Option (List ℕ)) (exit : ℕ) : Type 0 where
  pub exploration : Exploration
  pub is : IsExplorationOf img config burst limit exploration
  pub text : Appends old new (told_with (listed names) rows.Seen (exploration_text exploration))
  pub status : exit ≡ cond exploration.whole 0 2

-- a history for which something holds is a play that shows the observation
abbrev pub HasWitness : Image → Explored → Observation → (saves : List Entry → Type 0) → Type 0
HasWitness img explored o saves = (es : List Entry) × IsWitness img explored.config explored.burst o es × saves es

-- the first of what was found that is looked for has such a witness; or no play shows anything that is looked for
abbrev pub IsAnswerTo : Image → Explored → Sought → Exploration → (saves : List Entry → Type 0) → Option (Bor Seen)
    → Type 0
IsAnswerTo img explored sought x saves None = ShowNoMatch img explored.config explored.burst sought
IsAnswerTo img explored sought x saves (Some seen) =
    IsFirstMatch sought seen.now x.found.items × Matches sought seen.now.what
    × HasWitness img explored seen.now.what saves

-- what was found is told with the names that are given, and the exit status says whether anything was
pub record FindsSight (names : Option (Bor Names)) (img : Image) (explored : Explored) (sought : Sought)
    (saves : List Entry → Type 0) (old new : Option (List ℕ)) (exit : ℕ) : Type 0 where
  pub exploration : Exploration
  pub is : IsExplorationOf img explored.config explored.burst explored.states exploration
  pub seen : Option (Bor Seen)
  pub answer : IsAnswerTo img explored sought exploration saves seen
  pub text : Appends old new (told_with (listed names) rows.Seen (finding_text exploration seen))
  pub status : exit ≡ cond (is_some seen) 0 2
