-- What a machine answers to the event that an entry names.
use Rattle.std.specs.Prelude.{◌≡◌, ◌⊎◌, ◌++◌, ◌∷◌, [], List, None, Some, cond, nat_lt}
use Rattle.svc_base.specs.declared.config.Config.{Config}
use Rattle.svc_base.specs.declared.refusal.Refusal.{Refusal}
use Rattle.svc_base.specs.declared.refusal.Refusal.TheVariants as refusal
use Rattle.svc_image.specs.Image.{Image}
use Rattle.svc_machine_laws.specs.Events.{Event}
use Rattle.svc_machine_laws.specs.Standing.{refusal_of, reply_to}
use Rattle.svc_history_laws.specs.declared.entry.Entry.{Entry}
use Rattle.svc_history_laws.specs.Entries.{entry_of}
use Rattle.svc_history_laws.specs.Legal.{LegalHistory, led_to}
use Rattle.svc_history_laws.specs.Replay.{IsReplay}
use Rattle.svc_script.specs.declared.playing.Answer.{Answer}
use Rattle.svc_script.specs.declared.playing.Answer.TheVariants as answer

-- behind these entries the machine accepts the event that an entry names, and this is the event's entry: with it they
-- are a legal history
pub record IsSoundRow (img : Image) (config : Config) (es : List Entry) (e found : Entry) : Type 0 where
  pub event : Event
  pub replay : IsReplay img (led_to img config es).plain e event
  pub accepted : refusal_of img config (led_to img config es) event ≡ None
  pub entry : found ≡ entry_of event (reply_to img (led_to img config es) event)
  pub sound : LegalHistory img config (es ++ found ∷ [])

-- it refuses that event
pub record RefusesEvent (img : Image) (config : Config) (es : List Entry) (e : Entry) (why : Refusal) : Type 0 where
  pub event : Event
  pub replay : IsReplay img (led_to img config es).plain e event
  pub why_is : refusal_of img config (led_to img config es) event ≡ Some why

-- the entry names no event, since its unit has no task, or there is no such unit
pub record HasNoTask (img : Image) (config : Config) (es : List Entry) (e : Entry) (why : Refusal) : Type 0 where
  pub none : (x : Event) → IsReplay img (led_to img config es).plain e x → ⊥
  pub why_is : why ≡ cond (nat_lt e.unit.0 config.units) refusal.Idle refusal.NoSuchUnit

-- what the machine answers there to the event that an entry names
abbrev pub IsAnswerTo : Image → Config → List Entry → Entry → Answer → Type 0
IsAnswerTo img config es e (answer.Accepted found) = IsSoundRow img config es e found
IsAnswerTo img config es e (answer.Refused why) = RefusesEvent img config es e why ⊎ HasNoTask img config es e why
IsAnswerTo img config es e (answer.Taken local ask) = ⊥
IsAnswerTo img config es e answer.Nothing = ⊥
