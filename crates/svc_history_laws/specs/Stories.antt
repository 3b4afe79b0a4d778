-- What a unit's task was answered, read off a history.
use Rattle.std.specs.Prelude.{◌≡◌, ℕ, ◌==◌, Bool, true, false, cond, List, [], ◌∷◌, Option, Some, None, option_map}
use Rattle.std.specs.Prelude.{unwrap_or, is_some, slice_get, take}
use Rattle.svc_base.specs.declared.config.Config.{Config}
use Rattle.svc_base.specs.declared.ids.WordAddr.{WordAddr}
use Rattle.svc_image.specs.Image.{Image}
use Rattle.svc_core_laws.specs.Program.{Action, Loaded, Stored, Replaced, Emitted, task_log}
use Rattle.svc_core_laws.specs.Words.{program}
use Rattle.svc_machine_laws.specs.PlainMachine.{Task}
use Rattle.svc_machine_laws.specs.Logs.{plus}
use Rattle.svc_history_laws.specs.declared.entry.Kind.{Kind}
use Rattle.svc_history_laws.specs.declared.entry.Kind.TheVariants.{Assign, Submit, Replace, Cancel, Commit}
use Rattle.svc_history_laws.specs.declared.entry.ReplyKind.{ReplyKind}
use Rattle.svc_history_laws.specs.declared.entry.ReplyKind.TheVariants as reply
use Rattle.svc_history_laws.specs.declared.entry.Entry.{Entry}
use Rattle.svc_history_laws.specs.Legal.{led_to}

-- what a reply with this word and value says of memory or output; a store for which a word was read is one of less than
-- a word
abbrev pub told_reply : ReplyKind → (addr word : ℕ) → (served : Bool) → Option Action
told_reply reply.Assigned addr word served = None
told_reply reply.Ran addr word served = None
told_reply reply.Loaded addr word served = Some (Loaded addr word)
told_reply reply.Stored addr word false = Some (Stored addr word)
told_reply reply.Stored addr word true = Some (Replaced addr word)
told_reply reply.Emitted addr word served = Some (Emitted word)
told_reply reply.Trapped addr word served = None
told_reply reply.Replaced addr word served = None
told_reply reply.Cancelled addr word served = None
told_reply reply.Committed addr word served = None

abbrev pub the_address : WordAddr → ℕ
the_address a = a.0

-- what an entry's reply says of memory or output, if anything
abbrev pub told_by : Entry → Option Action
told_by e = told_reply e.reply (unwrap_or (option_map the_address e.addr) 0) (unwrap_or e.word 0) (is_some e.served)

-- a story, the newest first, after an entry of its unit: an assignment begins it again, and a submit adds its answer
abbrev pub goes_on : Kind → Option Action → List Action → List Action
goes_on Assign told log = []
goes_on Submit told log = plus told log
goes_on Replace told log = log
goes_on Cancel told log = log
goes_on Commit told log = log

-- entries of other units leave it
abbrev pub told_on : (unit : ℕ) → List Action → Entry → List Action
told_on unit log e = cond (e.unit.0 == unit) (goes_on e.kind (told_by e) log) log

-- the story of a unit after more entries
unfoldable pub story_after : (unit : ℕ) → List Action → List Entry → List Action
story_after unit log [] = log
story_after unit log (e ∷ es) = story_after unit (told_on unit log e) es

-- the story of a unit in a history: the answers to its submits since its last assignment, each a load, a store or an
-- output word with its address and word, the newest first
abbrev pub story : (unit : ℕ) → List Entry → List Action
story unit es = story_after unit [] es

-- a commit at this index of a history: its number is that of the commits before it, and the story of the head's unit is
-- what the sequential run answers the task of that number
pub record IsAnswered (img : Image) (config : Config) (es : List Entry) (index : ℕ) (e : Entry) : Type 0 where
  pub head : Task
  pub others : List Task
  pub tasks : (led_to img config (take index es)).plain.tasks ≡ head ∷ others
  pub number : e.word ≡ Some (led_to img config (take index es)).plain.commits
  pub answers :
      story head.unit (take index es) ≡ task_log (program img) (led_to img config (take index es)).plain.commits

-- the history has the commit of this number
pub record HasCommit (es : List Entry) (number : ℕ) : Type 0 where
  pub index : ℕ
  pub entry : Entry
  pub at : slice_get es index ≡ Some entry
  pub kind : entry.kind ≡ Commit
  pub number_is : entry.word ≡ Some number
