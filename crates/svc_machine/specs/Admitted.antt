-- An event that is admitted, and what was found about it.
use Rattle.std.specs.Prelude.{◌≡◌, Option, None, Some, Result, Ok, Err, IfOk, option_map}
use Rattle.svc_base.specs.declared.refusal.Refusal.{Refusal}
use Rattle.svc_base.specs.declared.refusal.Refusal.TheVariants as refusal
use Rattle.svc_image.specs.Image.{Image}
use Rattle.svc_core_laws.specs.Bursts.{Advance}
use Rattle.svc_bus_laws.specs.BusState.{Agrees}
use Rattle.svc_bus_laws.specs.LineTable.{LineTable}
use Rattle.svc_bus.specs.State.{bus_state}
use Rattle.svc_machine_laws.specs.Events as laws
use Rattle.svc_machine_laws.specs.Events.{Submit, seat_place}
use Rattle.svc_machine_laws.specs.Refusals.{asked_word, full_set, refuse}
use Rattle.svc_machine_laws.specs.Standing.{Standing, refusal_of}
use Rattle.svc_machine.specs.declared.admit.Admitted.{Admitted}
use Rattle.svc_machine.specs.declared.admit.Admitted.TheVariants as admitted
use Rattle.svc_machine.specs.Refusing.{machine_at}
use Rattle.svc_machine.specs.Seats.{head_end}
use Rattle.svc_machine.specs.Value.{MachineValue, StandsAt}

-- the event
abbrev pub event_in : Admitted → laws.Event
event_in (admitted.Assign unit guess) = laws.Assign unit.0 guess
event_in (admitted.Submit place burst) = laws.Submit burst.now
event_in (admitted.Replace unit addr) = laws.Replace unit.0 addr.0
event_in (admitted.Cancel unit place) = laws.Cancel unit.0
event_in (admitted.Commit by end) = laws.Commit by.0

-- what was found: the place of the unit's seat, or how the head has ended
abbrev pub IsFound : MachineValue → Admitted → Type 0
IsFound m (admitted.Assign unit guess) = Unit {0}
IsFound m (admitted.Submit place burst) = seat_place (machine_at m) burst.now.unit.0 ≡ Some place
IsFound m (admitted.Replace unit addr) = Unit {0}
IsFound m (admitted.Cancel unit place) = seat_place (machine_at m) unit.0 ≡ Some place
IsFound m (admitted.Commit by end) = head_end (machine_at m).seats ≡ Some end

-- why the unit has no room for the word that a burst asks for, if it has none
abbrev pub room_refusal : Image → LineTable → Advance → Option Refusal
room_refusal img t b =
    option_map (λ named. refusal.SetFull (record { 0 = named })) (full_set t b.unit.0 (asked_word img b.ask))

-- no other case of the table of refusals holds for the burst
abbrev pub IsAdmitted : MachineValue → Advance → Type 0
IsAdmitted m b = (s : Standing) → StandsAt m s
    → refusal_of m.image m.config s (Submit b) ≡ room_refusal m.image s.lines b

-- why the bus still refuses what was admitted, if it does
abbrev pub refused_yet : Image → LineTable → Admitted → Option Refusal
refused_yet img t (admitted.Assign unit guess) = None
refused_yet img t (admitted.Submit place burst) = room_refusal img t burst.now
refused_yet img t (admitted.Replace unit addr) = None
refused_yet img t (admitted.Cancel unit place) = None
refused_yet img t (admitted.Commit by end) = None

-- why the event is refused, given what its admission answers
abbrev pub refusal_by : Image → LineTable → Result Admitted Refusal → Option Refusal
refusal_by img t (Ok a) = refused_yet img t a
refusal_by img t (Err why) = Some why

-- an event's admission: over each line table that the bus agrees with it is refused as the table of refusals says, and
-- what isn't refused is the event, with what was found about it
pub record IsAdmission (m : MachineValue) (x : laws.Event) (result : Result Admitted Refusal) : Type 0 where
  pub refused : (t : LineTable) → Agrees (bus_state m.bus) t
      → refusal_by m.image t result ≡ refuse m.image m.config (machine_at m) t x
  pub event : IfOk result (λ a. event_in a ≡ x)
  pub found : IfOk result (λ a. IsFound m a)
