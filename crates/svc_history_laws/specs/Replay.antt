-- How an entry is replayed, and what may be wrong with it.
use Rattle.std.specs.Prelude.{◌⊎◌, ◌≡◌, ◌≢◌, ℕ, ◌+◌, ◌<◌, true, List, Some, None, is_some, length, take}
use Rattle.svc_base.specs.declared.config.Config.{Config}
use Rattle.svc_image.specs.Image.{Image}
use Rattle.svc_core_laws.specs.State.{State}
use Rattle.svc_core_laws.specs.Bursts.{Advance, IsAdvance}
use Rattle.svc_core_laws.specs.Words.{program}
use Rattle.svc_machine_laws.specs.PlainMachine.{Plain}
use Rattle.svc_machine_laws.specs.WholeMachine.{Seat, machine_of}
use Rattle.svc_machine_laws.specs.Refusals.{seat_at}
use Rattle.svc_machine_laws.specs.Events.{Event}
use Rattle.svc_machine_laws.specs.Events as event
use Rattle.svc_machine_laws.specs.Standing.{Standing, refusal_of, reply_to}
use Rattle.svc_history_laws.specs.declared.entry.Kind.{Kind}
use Rattle.svc_history_laws.specs.declared.entry.Kind.TheVariants.{Assign, Submit, Replace, Cancel, Commit}
use Rattle.svc_history_laws.specs.declared.entry.Entry.{Entry}
use Rattle.svc_history_laws.specs.Entries.{entry_of}
use Rattle.svc_history_laws.specs.Submissions.{turns_of}
use Rattle.svc_history_laws.specs.Legal.{the_arg, the_local, the_ask, LegalHistory}

-- the burst is what the unit's lease makes of this many turns
pub record IsBurstOf (img : Image) (s : Plain) (unit turns : ℕ) (b : Advance) : Type 0 where
  pub seat : Seat State
  pub seat_is : seat_at (machine_of (program img) s) unit ≡ Some seat
  pub unit_is : b.unit.0 ≡ unit
  pub epoch : b.epoch ≡ seat.epoch
  pub start : b.start ≡ seat.core
  pub advance : IsAdvance img turns b

-- the event that an entry names there
abbrev pub ReplaysAs : Kind → Image → Plain → Entry → Event → Type 0
ReplaysAs Assign img s e x = (is_some e.arg ≡ true) × (x ≡ event.Assign e.unit.0 (the_arg e))
ReplaysAs Submit img s e x =
    (is_some e.local ≡ true) × (is_some e.ask ≡ true) × (b : Advance)
    × IsBurstOf img s e.unit.0 (the_local e + turns_of (the_ask e)) b × (x ≡ event.Submit b)
ReplaysAs Replace img s e x = (is_some e.arg ≡ true) × (x ≡ event.Replace e.unit.0 (the_arg e))
ReplaysAs Cancel img s e x = x ≡ event.Cancel e.unit.0
ReplaysAs Commit img s e x = x ≡ event.Commit e.unit.0

-- the event is a replay of the entry
abbrev pub IsReplay : Image → Plain → Entry → Event → Type 0
IsReplay img s e x = ReplaysAs e.kind img s e x

-- the entry lacks what its event needs: a number, or a task that its unit can run on
abbrev pub Lacks : Kind → Image → Plain → Entry → Type 0
Lacks Assign img s e = e.arg ≡ None
Lacks Submit img s e = (seat_at (machine_of (program img) s) e.unit.0 ≡ None) ⊎ ((e.local ≡ None) ⊎ (e.ask ≡ None))
Lacks Replace img s e = e.arg ≡ None
Lacks Cancel img s e = ⊥
Lacks Commit img s e = ⊥

-- the entry names no event there, because it lacks what its event needs or its unit has no task to run on; or its event
-- is refused
abbrev pub IsRefusedThere : Image → Config → Standing → Entry → Type 0
IsRefusedThere img config s e = (x : Event) → IsReplay img s.plain e x → is_some (refusal_of img config s x) ≡ true

-- its event is accepted there, and has another entry
pub record DiffersThere (img : Image) (config : Config) (s : Standing) (e : Entry) : Type 0 where
  pub event : Event
  pub replay : IsReplay img s.plain e event
  pub accepted : refusal_of img config s event ≡ None
  pub entry : e ≢ entry_of event (reply_to img s event)

-- the entries before the index are legal, and the entry there isn't legal after them
pub record IsFirstFault (img : Image) (config : Config) (es : List Entry) (index : ℕ) : Type 0 where
  pub within : index < length es
  pub sound : LegalHistory img config (take index es)
  pub faulty : LegalHistory img config (take (index + 1) es) → ⊥
