-- The machine's events, by their numbers.
use Rattle.svc_machine_laws.specs.Events as laws
use Rattle.svc_machine.specs.declared.event.Event.{Event}
use Rattle.svc_machine.specs.declared.event.Event.TheVariants as event

-- an event as the plain machine has it
abbrev pub event_of : Event → laws.Event
event_of (event.Assign unit guess) = laws.Assign unit.0 guess
event_of (event.Submit burst) = laws.Submit burst.now
event_of (event.Replace unit addr) = laws.Replace unit.0 addr.0
event_of (event.Cancel unit) = laws.Cancel unit.0
event_of (event.Commit by) = laws.Commit by.0
