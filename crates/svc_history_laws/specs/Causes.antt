-- What the cause of a cut says, read off an entry.
use Rattle.std.specs.Prelude.{◌⊎◌, ◌≡◌, ◌≢◌, ℕ, suc, ◌+◌, ◌-◌, ◌<◌, ◌≤◌, true, List, ◌∷◌, length, Option, Some, None}
use Rattle.std.specs.Prelude.{is_some, slice_get, take}
use Rattle.svc_base.specs.declared.config.Config.{Config}
use Rattle.svc_base.specs.declared.ids.UnitId.{UnitId}
use Rattle.svc_base.specs.declared.ids.WordAddr.{WordAddr}
use Rattle.svc_image.specs.Image.{Image}
use Rattle.svc_core_laws.specs.Program.{seq}
use Rattle.svc_core_laws.specs.Words.{program}
use Rattle.svc_bus_laws.specs.MapLaws.{IsVictim}
use Rattle.svc_machine_laws.specs.Blame.{Misleads}
use Rattle.svc_machine_laws.specs.PlainMachine.{Task, Plain, running, run_done, run_entry, submit}
use Rattle.svc_machine_laws.specs.WholeMachine.{machine_of}
use Rattle.svc_machine_laws.specs.Events.{task_place}
use Rattle.svc_history_laws.specs.declared.entry.Kind.TheVariants.{Assign, Submit, Cancel, Commit}
use Rattle.svc_history_laws.specs.declared.entry.ReplyKind.TheVariants as reply
use Rattle.svc_history_laws.specs.declared.entry.ServedKind.{ServedKind}
use Rattle.svc_history_laws.specs.declared.entry.ServedKind.TheVariants as kind
use Rattle.svc_history_laws.specs.declared.entry.CutKind.{CutKind}
use Rattle.svc_history_laws.specs.declared.entry.CutKind.TheVariants as why
use Rattle.svc_history_laws.specs.declared.entry.Entry.{Entry}
use Rattle.svc_history_laws.specs.Legal.{the_ask, the_local, led_to}

-- the first task that the entry cuts is the one at this place, and it counts that task and all that were active after
-- it
pub record CutsFrom (s : Plain) (e : Entry) (place : ℕ) : Type 0 where
  pub first : e.first ≡ Some (s.commits + place)
  pub squashed : e.squashed ≡ Some (length s.tasks - place)

-- a violation: the entry stored its word, and the first task cut is the victim of that store
pub record IsViolation (img : Image) (s : Plain) (e : Entry) : Type 0 where
  pub kind : e.kind ≡ Submit
  pub reply : e.reply ≡ reply.Stored
  pub word : WordAddr
  pub address : e.addr ≡ Some word
  pub place : ℕ
  pub at : task_place s e.unit.0 ≡ Some place
  pub victim : ℕ
  pub is_victim : IsVictim (machine_of (program img) s).versioned place word.0 victim
  pub cuts : CutsFrom s e victim

-- a wrong guess: the entry is a commit, after which the run has stopped or the next task didn't begin at the entry that
-- is due; the first task cut is that next one
pub record IsWrongGuess (img : Image) (s : Plain) (e : Entry) : Type 0 where
  pub kind : e.kind ≡ Commit
  pub head : Task
  pub next : Task
  pub others : List Task
  pub tasks : s.tasks ≡ head ∷ next ∷ others
  pub wrong : (is_some (seq (program img) (suc s.commits)).stopped ≡ true)
      ⊎ ((seq (program img) (suc s.commits)).due ≢ Some next.entry)
  pub cuts : CutsFrom s e 1

-- a wrong guess: the entry is a submit that ended its unit's task; the first task cut is the next one, which began at
-- an entry other than the successor, or the task had none
pub record IsFoundWrong (img : Image) (s : Plain) (e : Entry) : Type 0 where
  pub kind : e.kind ≡ Submit
  pub place : ℕ
  pub at : task_place s e.unit.0 ≡ Some place
  pub misleads : Misleads (run_done (program img)) run_entry
      (running (program img) (submit (program img) s place (the_local e) (the_ask e))) place
  pub cuts : CutsFrom s e (suc place)

-- a cancel: the entry is a cancel, and the first task cut is its unit's
pub record IsCancel (s : Plain) (e : Entry) : Type 0 where
  pub kind : e.kind ≡ Cancel
  pub place : ℕ
  pub at : task_place s e.unit.0 ≡ Some place
  pub cuts : CutsFrom s e place

-- the cut has the cause that it names
abbrev pub HasCause : CutKind → Image → Plain → Entry → Type 0
HasCause why.Violation img s e = IsViolation img s e
HasCause why.Guess img s e = IsWrongGuess img s e ⊎ IsFoundWrong img s e
HasCause why.Cancel img s e = IsCancel s e

-- an entry without a cause cuts nothing
abbrev pub CutsBy : Option CutKind → Image → Plain → Entry → Type 0
CutsBy None img s e = (e.first ≡ None) × (e.squashed ≡ None)
CutsBy (Some c) img s e = HasCause c img s e

-- the cut of an entry has its blame
abbrev pub IsBlamed : Image → Plain → Entry → Type 0
IsBlamed img s e = CutsBy e.cause img s e

-- an entry before this index read the word for the unit, and not from its own line; since then no task was assigned to
-- the unit
pub record IsRead (es : List Entry) (index unit word : ℕ) : Type 0 where
  pub at : ℕ
  pub earlier : at < index
  pub entry : Entry
  pub entry_is : slice_get es at ≡ Some entry
  pub unit_is : entry.unit.0 ≡ unit
  pub address : entry.addr ≡ Some (record { 0 = word })
  pub since : (k : ℕ) (f : Entry) → at < k → k < index → slice_get es k ≡ Some f → f.unit.0 ≡ unit → f.kind ≡ Assign → ⊥
  pub served : ServedKind
  pub served_is : entry.served ≡ Some served
  pub elsewhere : served ≢ kind.Hit

-- the unit that the entry names as supplier ran the task of this number there
pub record IsFrom (s : Plain) (e : Entry) (number : ℕ) : Type 0 where
  pub from : UnitId
  pub from_is : e.from ≡ Some from
  pub place : ℕ
  pub at : task_place s from.0 ≡ Some place
  pub number_is : number ≡ s.commits + place

-- the cause of a violation in the log: the first task cut had read the word that way, and if it was given a version,
-- that version's task was not above the one that stored
pub record IsCaused (img : Image) (config : Config) (es : List Entry) (index : ℕ) (e : Entry) : Type 0 where
  pub word : WordAddr
  pub address : e.addr ≡ Some word
  pub place : ℕ
  pub at : task_place (led_to img config (take index es)).plain e.unit.0 ≡ Some place
  pub victim : ℕ
  pub first : e.first ≡ Some ((led_to img config (take index es)).plain.commits + victim)
  pub task : Task
  pub task_is : slice_get (led_to img config (take index es)).plain.tasks victim ≡ Some task
  pub read : IsRead es index task.unit word.0
  pub not_above : read.served ≡ kind.Version
      → (number : ℕ) × IsFrom (led_to img config (take read.at es)).plain read.entry number
      × (number ≤ (led_to img config (take index es)).plain.commits + place)
