-- What is told after a fault.
use Rattle.std.specs.Prelude.{◌≡◌, ◌⊎◌, ℕ, List, [], ◌∷◌, ◌++◌, Option, Some, None, codes, slice_get}
use denote.Ref.{Bor}
use Rattle.svc_history.specs.declared.trace.TraceFaultKind.{TraceFaultKind}
use Rattle.svc_history.specs.declared.trace.TraceFaultKind.TheVariants as kind
use Rattle.svc_request.specs.Held.{Held}
use Rattle.svc_request.specs.Names.{also_written_by, written_by}
use Rattle.svc_request.specs.declared.request.Compared.{Compared}
use Rattle.svc_request.specs.declared.request.Compared.TheVariants.{All}
use Rattle.svc_request.specs.declared.request.Schedule.{Schedule}
use Rattle.svc_request.specs.declared.request.Source.{Source}
use Rattle.svc_request.specs.declared.request.Source.TheVariants as source
use Rattle.svc_request.specs.declared.request.Traced.{Traced}
use Rattle.svc_request.specs.declared.request.Request.{Request}
use Rattle.svc_request.specs.declared.request.Request.TheVariants as request
use Rattle.svc_request.specs.declared.faults.Fault.{Fault}
use Rattle.svc_request.specs.declared.faults.Fault.TheVariants as fault
use Rattle.svc_answer.specs.Requests.{IsTracedIn}
use Rattle.svc_reasons.specs.Explained.{Explains}
use Rattle.svc_reasons.specs.Words.{config_words, image_words}

-- a line of the program's own
abbrev pub sentence : List ℕ → List ℕ
sentence words = codes "svcsim: " ++ words ++ codes "\n"

-- ---- a trace

-- the trace that is replayed, and which columns of it are compared
abbrev pub replayed_by : Request → Option (Traced × Compared)
replayed_by (request.Observe traced named) = Some (traced, All)
replayed_by (request.Check traced compared script) = Some (traced, compared)
replayed_by (request.Profile traced to by named) = Some (traced, All)
replayed_by (request.Show traced shown) = Some (traced, All)
replayed_by (request.Draw traced picture) = Some (traced, All)
replayed_by (request.Export traced exported) = Some (traced, All)
replayed_by _ = None

-- what is told of the entry at this index of the trace that a request replays
abbrev pub ExplainsTraced : Held → Option (Traced × Compared) → (index : ℕ) → List ℕ → Type 0
ExplainsTraced held None index text = text ≡ []
ExplainsTraced held (Some (traced, compared)) index text =
    IsTracedIn held traced (λ img es. Explains compared img traced.config es index text)

-- the same of a fault; nothing if memory was refused
abbrev pub ExplainsFault : Held → Option (Traced × Compared) → (index : ℕ) → TraceFaultKind → List ℕ → Type 0
ExplainsFault held replayed index kind.Memory text = text ≡ []
ExplainsFault held replayed index _ text = ExplainsTraced held replayed index text

-- ---- files

-- the name of an image's file
abbrev pub name_of : Source → Option (Bor (List ℕ))
name_of source.BuiltIn = None
name_of (source.File name) = Some name

-- the script that comes before a schedule
abbrev pub script_of : Option Schedule → Option (Bor (List ℕ))
script_of None = None
script_of (Some schedule) = schedule.after

-- the files that a request reads, in this order; of texts the first
abbrev pub read_by : Request → List (Option (Bor (List ℕ)))
read_by (request.Run run) = name_of run.image ∷ script_of run.schedule ∷ None ∷ []
read_by (request.Sequential tasks) = name_of tasks.image ∷ None ∷ None ∷ []
read_by (request.Depend depended) = name_of depended.image ∷ depended.names ∷ None ∷ []
read_by (request.Explore explored) = name_of explored.image ∷ explored.names ∷ None ∷ []
read_by (request.Find explored sought trace) = name_of explored.image ∷ explored.names ∷ None ∷ []
read_by (request.Observe traced named) = name_of traced.image ∷ Some traced.trace ∷ named ∷ []
read_by (request.Script scripted) = name_of scripted.image ∷ Some scripted.events ∷ None ∷ []
read_by (request.Check traced compared script) = name_of traced.image ∷ Some traced.trace ∷ None ∷ []
read_by (request.Profile traced to by named) = name_of traced.image ∷ Some traced.trace ∷ named ∷ []
read_by (request.Show traced shown) = name_of traced.image ∷ Some traced.trace ∷ shown.names ∷ []
read_by (request.Draw traced picture) = name_of traced.image ∷ Some traced.trace ∷ picture.names ∷ []
read_by (request.Export traced exported) = name_of traced.image ∷ Some traced.trace ∷ None ∷ []
read_by (request.Assemble assembly) = Some assembly.text ∷ None ∷ None ∷ []
read_by (request.List image named) = name_of image ∷ named ∷ None ∷ []
read_by _ = None ∷ None ∷ None ∷ []

-- the texts that a request reads behind the first one
abbrev pub others_read_by : Request → List (Bor (List ℕ))
others_read_by (request.Assemble assembly) = assembly.others.items
others_read_by _ = []

-- the request reads the file of this name
abbrev pub Reads : Request → Bor (List ℕ) → Type 0
Reads asked name =
    ((place : ℕ) × (slice_get (read_by asked) place ≡ Some (Some name)))
    ⊎ ((place : ℕ) × (slice_get (others_read_by asked) place ≡ Some name))

-- a file that the request reads can't be read
pub record TellsUnread (asked : Request) (text : List ℕ) : Type 0 where
  pub name : Bor (List ℕ)
  pub is_read : Reads asked name
  pub told : text ≡ sentence (name.now ++ codes " can't be read")

-- the files to write, in words
abbrev pub or_also : List ℕ → Option (List ℕ) → List ℕ
or_also name None = name
or_also name (Some other) = name ++ codes " or " ++ other

abbrev pub files_written : Option (List ℕ) → Option (List ℕ) → Option (List ℕ)
files_written None also = None
files_written (Some name) also = Some (or_also name also)

-- the file to write is one that is read, or it couldn't be written; where none is written, nothing else is known
abbrev pub TellsUnsaved : Option (List ℕ) → List ℕ → Type 0
TellsUnsaved None text = text ≡ sentence (codes "memory ran out, or a trace has fewer entries than are asked for")
TellsUnsaved (Some name) text =
    (text ≡ sentence (name ++ codes " is read, and would be lost if it were saved"))
    ⊎ (text ≡ sentence (name ++ codes " can't be saved"))

-- which of the files of a request can't be read or saved
abbrev pub TellsFile : Request → List ℕ → Type 0
TellsFile asked text =
    TellsUnread asked text ⊎ TellsUnsaved (files_written (written_by asked) (also_written_by asked)) text

-- ---- a fault

-- what a fault alone tells
abbrev pub TellsAlone : Fault → List ℕ → Type 0
TellsAlone (fault.Config e) text = text ≡ sentence (config_words e)
TellsAlone (fault.Image e) text = text ≡ sentence (image_words e)
TellsAlone fault.Output text = text ≡ sentence (codes "standard output can't be written")
TellsAlone _ text = text ≡ []

-- what is told after a fault of a request, over these files
abbrev pub TellsWhy : Held → Request → Fault → List ℕ → Type 0
TellsWhy held asked fault.File text = TellsFile asked text
TellsWhy held asked (fault.Trace f) text = ExplainsFault held (replayed_by asked) f.index f.kind text
TellsWhy held asked f text = TellsAlone f text
