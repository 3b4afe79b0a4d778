-- What the words of a command line may ask for.
use Rattle.std.specs.Prelude.{◌≡◌, ◌<◌, ◌≤◌, ◌⊎◌, ℕ, List, None, length, codes}
use Rattle.svc_base.specs.declared.config.Config.{Config}
use Rattle.svc_request.specs.Held.{Held}
use Rattle.svc_request.specs.declared.request.Source.TheVariants as source
use Rattle.svc_request.specs.declared.request.Run.{Run}
use Rattle.svc_request.specs.declared.request.Request.{Request}
use Rattle.svc_request.specs.declared.request.Request.TheVariants as request
use Rattle.svc_answer.specs.Requests.{KeepsFiles}
use Rattle.svc_command.specs.Given.{Gives}
use Rattle.svc_command.specs.Line.{Has, IsNamed}

-- a word by which help is asked for
abbrev pub IsHelpWord : List ℕ → Type 0
IsHelpWord word = (word ≡ codes "help") ⊎ (word ≡ codes "-h") ⊎ (word ≡ codes "--help")

-- a word by which the version is asked for
abbrev pub IsVersionWord : List ℕ → Type 0
IsVersionWord word = (word ≡ codes "-V") ⊎ (word ≡ codes "--version")

-- one unit, 16 sets of 2 lines, 100,000 events and 1,000,000 turns
pub record IsBuiltInConfig (c : Config) : Type 0 where
  pub units : c.units ≡ 1
  pub sets : c.sets ≡ 16
  pub ways : c.ways ≡ 2
  pub events : c.events ≡ 100000
  pub turns : c.turns ≡ 1000000

-- to run the built-in image on that machine, with a thread for the unit, save nothing, and print the summary
pub record IsBuiltIn (run : Run) : Type 0 where
  pub image : run.image ≡ source.BuiltIn
  pub config_is : IsBuiltInConfig run.config
  pub schedule : run.schedule ≡ None
  pub trace : run.trace ≡ None
  pub row : run.row ≡ None

-- the request is that run
abbrev pub IsBuiltInRun : Request → Type 0
IsBuiltInRun (request.Run run) = IsBuiltIn run
IsBuiltInRun _ = ⊥

-- the words name what is asked for: help or the version by a word of its own, otherwise the subcommand
abbrev pub Names : List (List ℕ) → Request → Type 0
Names words (request.Help text) = Has IsHelpWord words
Names words request.Version = Has IsVersionWord words
Names words (request.Run run) = IsNamed (codes "run") words
Names words (request.Sequential tasks) = IsNamed (codes "seq") words
Names words (request.Depend depended) = IsNamed (codes "depend") words
Names words (request.Explore explored) = IsNamed (codes "explore") words
Names words (request.Find explored sought trace) = IsNamed (codes "explore") words
Names words (request.Observe traced names) = IsNamed (codes "explore") words
Names words (request.Script scripted) = IsNamed (codes "script") words
Names words (request.Check traced compared script) = IsNamed (codes "check") words
Names words (request.Profile traced to by names) = IsNamed (codes "profile") words
Names words (request.Show traced shown) = IsNamed (codes "show") words
Names words (request.Draw traced picture) = IsNamed (codes "draw") words
Names words (request.Export traced exported) = IsNamed (codes "export") words
Names words (request.Assemble assembly) = IsNamed (codes "assemble") words
Names words (request.List image names) = IsNamed (codes "list") words

-- what the words of a line may ask for: the built-in run if there is only the program's name, otherwise what they name,
-- with what they give
abbrev pub MayAsk : List (List ℕ) → Request → Type 0
MayAsk words asked =
    ((length words ≤ 1) × IsBuiltInRun asked) ⊎ ((1 < length words) × Names words asked × Gives words asked)

-- no file is changed, unless what the words may ask for may change one
abbrev pub KeepsAsked : List (List ℕ) → (held saved : Held) → Type 0
KeepsAsked words held saved = (saved ≡ held) ⊎ ((asked : Request) × MayAsk words asked × KeepsFiles asked held saved)
