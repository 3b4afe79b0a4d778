-- Which lists of entries are legal, and where they lead.
use Rattle.std.specs.Prelude.{◌≡◌, ℕ, ◌<◌, Bool, false, List, [], ◌∷◌, Some, None, unwrap_or, slice_get}
use Rattle.svc_base.specs.declared.config.Config.{Config}
use Rattle.svc_image.specs.Image.{Image}
use Rattle.svc_machine_laws.specs.PlainMachine.{Task}
use Rattle.svc_machine_laws.specs.Events.{Event, task_place}
use Rattle.svc_machine_laws.specs.Events as event
use Rattle.svc_machine_laws.specs.Standing.{Standing, opened_at, refusal_of, standing_after, reply_to}
use Rattle.svc_history_laws.specs.declared.entry.Kind.{Kind}
use Rattle.svc_history_laws.specs.declared.entry.Kind.TheVariants.{Assign, Submit, Replace, Cancel, Commit}
use Rattle.svc_history_laws.specs.declared.entry.Entry.{Entry}
use Rattle.svc_history_laws.specs.Entries.{entry_of}
use Rattle.svc_history_laws.specs.Submissions.{IsSubmission, after_submission, submission}

-- the numbers of an entry that has them
abbrev pub the_arg : Entry → ℕ
the_arg e = unwrap_or e.arg 0

abbrev pub the_local : Entry → ℕ
the_local e = unwrap_or e.local 0

abbrev pub the_ask : Entry → Bool
the_ask e = unwrap_or e.ask false

-- the entry is that of an event that isn't refused
abbrev pub IsAccepted : Image → Config → Standing → Event → Entry → Type 0
IsAccepted img config s x e = (refusal_of img config s x ≡ None) × (e ≡ entry_of x (reply_to img s x))

-- the entry is that of turns that its unit's task may submit
pub record IsSubmitted (img : Image) (config : Config) (s : Standing) (e : Entry) : Type 0 where
  pub unit : e.unit.0 < config.units
  pub below_limit : s.plain.accepted < config.events
  pub place : ℕ
  pub at : task_place s.plain e.unit.0 ≡ Some place
  pub task : Task
  pub task_is : slice_get s.plain.tasks place ≡ Some task
  pub turns : IsSubmission img s e.unit.0 place task (the_local e) (the_ask e)
  pub entry : e ≡ submission img s e.unit (the_local e) (the_ask e)

-- the entry is what the machine does there: it names an event that isn't refused, has that event's reply, and no field
-- that doesn't apply
abbrev pub LegalKind : Kind → Image → Config → Standing → Entry → Type 0
LegalKind Assign img config s e = IsAccepted img config s (event.Assign e.unit.0 (the_arg e)) e
LegalKind Submit img config s e = IsSubmitted img config s e
LegalKind Replace img config s e = IsAccepted img config s (event.Replace e.unit.0 (the_arg e)) e
LegalKind Cancel img config s e = IsAccepted img config s (event.Cancel e.unit.0) e
LegalKind Commit img config s e = IsAccepted img config s (event.Commit e.unit.0) e

-- a legal entry, where the ones before it lead
unfoldable pub LegalEntry : Image → Config → Standing → Entry → Type 0
LegalEntry img config s e = LegalKind e.kind img config s e

-- where an entry leads
abbrev pub by_kind : Kind → Image → Standing → Entry → Standing
by_kind Assign img s e = standing_after img s (event.Assign e.unit.0 (the_arg e))
by_kind Submit img s e = after_submission img s e.unit.0 (the_local e) (the_ask e)
by_kind Replace img s e = standing_after img s (event.Replace e.unit.0 (the_arg e))
by_kind Cancel img s e = standing_after img s (event.Cancel e.unit.0)
by_kind Commit img s e = standing_after img s (event.Commit e.unit.0)

-- where an entry leads
unfoldable pub after_entry : Image → Standing → Entry → Standing
after_entry img s e = by_kind e.kind img s e

-- where a list of entries leads
unfoldable pub last : Image → Standing → List Entry → Standing
last img s [] = s
last img s (e ∷ es) = last img (after_entry img s e) es

-- each entry is legal where the ones before it lead
unfoldable pub Legal : Image → Config → Standing → List Entry → Type 0
Legal img config s [] = Unit {0}
Legal img config s (e ∷ es) = LegalEntry img config s e × Legal img config (after_entry img s e) es

-- a legal history of a machine that was opened
abbrev pub LegalHistory : Image → Config → List Entry → Type 0
LegalHistory img config es = Legal img config (opened_at img config 0) es

-- where a history leads
abbrev pub led_to : Image → Config → List Entry → Standing
led_to img config es = last img (opened_at img config 0) es
