-- What an event comes to at a recorder.
use Rattle.std.specs.Prelude.{◌≡◌, ◌++◌, ◌∷◌, [], length, Option, Some, None, Result, IfOk, OnErr, MatchResult}
use Rattle.svc_base.specs.declared.refusal.Refusal.{Refusal}
use Rattle.svc_machine_laws.specs.Events.{Event}
use Rattle.svc_machine_laws.specs.Standing.{Standing, after_event, refusal_of, reply_to}
use Rattle.svc_machine.specs.Value.{IsSequentialMachine}
use Rattle.svc_history_laws.specs.declared.entry.Entry.{Entry}
use Rattle.svc_history_laws.specs.declared.entry.Slip.{Slip}
use Rattle.svc_history_laws.specs.Board.{board}
use Rattle.svc_history_laws.specs.Entries.{entry_of}
use Rattle.svc_history.specs.Recorded.{Recorded, IsCounted, IsLegal, standing_of}

-- the first refusal that applies, by the table of refusals, if any
abbrev pub refused_at : Recorded → Event → Option Refusal
refused_at r x = refusal_of r.machine.image r.machine.config (standing_of r) x

-- it is refused exactly when the table says so, with that refusal
abbrev pub IsRefusedByTable : Recorded → Event → Result Slip Refusal → Type 0
IsRefusedByTable r x answer = MatchResult answer (λ _. refused_at r x ≡ None) (λ why. refused_at r x ≡ Some why)

-- its entry if it is accepted: its own fields, with the plain machine's reply
abbrev pub entry_at : Recorded → Event → Entry
entry_at r x = entry_of x (reply_to r.machine.image (standing_of r) x)

-- where it leads
abbrev pub led_on : Recorded → Event → Standing
led_on r x = after_event r.machine.image r.machine.config (standing_of r) x

-- an accepted event appends exactly one entry, its own, and a refused one changes nothing. Before and after it the
-- history is legal, and the committed tasks have left what the plain evaluator leaves.
pub record IsApplied (old new : Recorded) (x : Event) (answer : Result Slip Refusal) : Type 0 where
  pub refused : IsRefusedByTable old x answer
  pub index : IfOk answer (λ slip. slip.index ≡ length old.entries)
  pub entry : IfOk answer (λ slip. slip.entry ≡ entry_at old x)
  pub entries : IfOk answer (λ slip. new.entries ≡ old.entries ++ slip.entry ∷ [])
  pub standing : standing_of new ≡ led_on old x
  pub image : new.machine.image ≡ old.machine.image
  pub config : new.machine.config ≡ old.machine.config
  pub unchanged : OnErr answer (new ≡ old)
  pub was_legal : IsLegal old
  pub legal : IsLegal new
  pub counted : IsCounted new
  pub headline : IsSequentialMachine (board new.entries).committed new.machine
