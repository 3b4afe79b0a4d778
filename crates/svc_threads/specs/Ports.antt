-- How a unit's thread is answered, and what it brings back.
use Rattle.std.specs.Prelude.{◌≡◌, IfSome, Result}
use Rattle.svc_base.specs.declared.ids.UnitId.{UnitId}
use Rattle.svc_base.specs.declared.refusal.Refusal.{Refusal}
use Rattle.svc_machine.specs.declared.event.Event.{Event}
use Rattle.svc_machine.specs.declared.event.Event.TheVariants.{Assign, Submit, Replace, Cancel, Commit}
use Rattle.svc_machine.specs.Events.{event_of}
use Rattle.svc_machine_laws.specs.declared.reply.Reply.{Reply}
use Rattle.svc_machine_laws.specs.Events as laws
use Rattle.svc_history_laws.specs.declared.entry.Entry.{Entry}
use Rattle.svc_history_laws.specs.declared.entry.Slip.{Slip}
use Rattle.svc_history_laws.specs.Entries.{entry_of}
use Rattle.svc_core.specs.declared.burst.Lease.{Lease}
use Rattle.svc_history.specs.declared.glance.Glance.{Glance}
use Rattle.svc_history.specs.Applying.{IsApplied}
use Rattle.svc_history.specs.Glances.{IsGlance}
use Rattle.svc_history.specs.Recorded.{Recorded, IsLegal}

-- the entry is this event's, with some reply
abbrev pub IsEntryOf : Event → Entry → Type 0
IsEntryOf x e = (r : Reply) × (e ≡ entry_of (event_of x) r)

-- the answer is what the event comes to at some recorder with a legal history
abbrev pub IsAppliedToSome : laws.Event → Result Slip Refusal → Type 0
IsAppliedToSome x answer = (old : Recorded) × (new : Recorded) × IsApplied old new x answer

-- the unit that asks for an event
abbrev pub unit_of : Event → UnitId
unit_of (Assign unit guess) = unit
unit_of (Submit burst) = burst.now.unit
unit_of (Replace unit addr) = unit
unit_of (Cancel unit) = unit
unit_of (Commit by) = by

-- the slip is of an event of the unit
abbrev pub IsOf : UnitId → Slip → Type 0
IsOf unit s = s.entry.unit ≡ unit

-- the glance shows the unit some machine with a legal history
abbrev pub IsGlanceOfSome : UnitId → Glance → Type 0
IsGlanceOfSome unit glance = (r : Recorded) × IsLegal r × IsGlance r.machine unit.0 glance

-- a lease in the glance is the unit's own
abbrev pub LeasesTo : UnitId → Glance → Type 0
LeasesTo unit glance = IfSome glance.lease (λ (lease : Lease). lease.unit ≡ unit)
