use Rattle.std.proofs.Common.{◌≡◌, map, take}
use Rattle.std.specs.List.{AllByRecursion}
use Rattle.svc_machine_laws.specs.Events.{IsEvent}
use Rattle.svc_machine_laws.specs.Standing.{after_events, opened_at}
use Rattle.svc_machine.specs.Events.{event_of}
use Rattle.svc_machine.specs.Value.{StandsAt}
use Rattle.svc_machine.proofs.run.drive.Given as goal

abbrev pub invariant-loop-event : goal.invariant-loop-event
invariant-loop-event l = record {
  image : l.machine.image ≡ l.fn.image;
  config : l.machine.config ≡ l.fn.config;
  are : AllByRecursion IsEvent (map event_of (take l.event-index l.events));
  standing : StandsAt l.machine (after_events l.fn.image l.fn.config (opened_at l.fn.image l.fn.config 0) (map event_of (take l.event-index l.events)));
}
