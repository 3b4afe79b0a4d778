-- What ties the machine's fields to the plain machine.
use Rattle.std.specs.Prelude.{◌≡◌, ℕ, ◌≤◌, List, Option}
use Rattle.svc_base.specs.declared.config.Config.{Config}
use Rattle.svc_image.specs.Image.{Image, IsImage}
use Rattle.svc_core_laws.specs.declared.end.End.{End}
use Rattle.svc_core_laws.specs.State.{State}
use Rattle.svc_core_laws.specs.Program.{seq}
use Rattle.svc_core_laws.specs.Words.{program}
use Rattle.svc_bus_laws.specs.LineTable.{LineTable}
use Rattle.svc_bus_laws.specs.BusState.{Agrees}
use Rattle.svc_bus.specs.Value.{BusValue}
use Rattle.svc_bus.specs.State.{bus_state}
use Rattle.svc_machine_laws.specs.PlainMachine.{Plain}
use Rattle.svc_machine_laws.specs.WholeMachine as whole
use Rattle.svc_machine_laws.specs.WholeMachine.{machine_of}
use Rattle.svc_machine_laws.specs.Guide.{Guide, guide_of}
use Rattle.svc_machine_laws.specs.Reached.{IsReached}
use Rattle.svc_machine.specs.declared.seat.Seat.{Seat}
use Rattle.svc_machine.specs.Value.{MachineValue}

-- the machine's fields, with the plain machine that its counts and seats make; `places` says for how many seats there
-- is memory, and `room` for how many words of output
pub record Parts : Type 0 where
  pub image : Image
  pub config : Config
  pub plain : Plain
  pub bus : BusValue
  pub guide : Guide
  pub seats : List (whole.Seat State)
  pub places : ℕ
  pub output : List ℕ
  pub room : ℕ
  pub stopped : Option End

-- what contracts see of them
abbrev pub machine_value : Parts → MachineValue
machine_value m = record { image = m.image; config = m.config; plain = m.plain; bus = m.bus }

-- a seat as the whole machine has it
abbrev pub whole_seat : Seat → whole.Seat State
whole_seat seat = record {
  unit = seat.lease.unit.0;
  epoch = seat.lease.epoch;
  entry = seat.task_entry;
  core = seat.lease.core;
  waiting = seat.waiting.items;
}

-- the fields are what the plain machine says of the whole machine, and the bus agrees with the lines of a standing that
-- events lead to
pub record Kept (m : Parts) : Type 0 where
  pub sound : IsImage m.image
  pub seats : m.seats ≡ (machine_of (program m.image) m.plain).seats
  pub output : m.output ≡ (seq (program m.image) m.plain.commits).output
  pub stopped : m.stopped ≡ (seq (program m.image) m.plain.commits).stopped
  pub guide : m.guide ≡ guide_of (program m.image) m.image.entries m.plain
  -- a unit runs at most one task
  pub places : m.config.units ≤ m.places
  -- every accepted event outputs at most one word
  pub room : m.config.events ≤ m.room
  pub lines : LineTable
  pub agrees : Agrees (bus_state m.bus) lines
  pub reached : IsReached m.image m.config (record { plain = m.plain; lines = lines })
