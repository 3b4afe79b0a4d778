-- What the reads of a machine answer.
use Rattle.std.specs.Prelude.{ℕ, Bool, nat_le, Option, map, option_map, slice_get}
use Rattle.svc_core.specs.declared.burst.Lease.{Lease}
use Rattle.svc_core_laws.specs.State.{State}
use Rattle.svc_core_laws.specs.Words.{program}
use Rattle.svc_machine_laws.specs.PlainMachine.{Running, running, unit_of}
use Rattle.svc_machine_laws.specs.WholeMachine.{Seat, machine_of}
use Rattle.svc_machine_laws.specs.Refusals.{seat_at}
use Rattle.svc_bus_laws.specs.Refusals as bus
use Rattle.svc_machine.specs.declared.shown.ActiveTask.{ActiveTask}
use Rattle.svc_machine.specs.Value.{MachineValue}

-- the unit runs the head
abbrev pub runs_head : MachineValue → (unit : ℕ) → Bool
runs_head m unit = bus.is_head (map unit_of m.plain.tasks) unit

-- from what a unit may run its task on
abbrev pub lease_from : Seat State → Lease
lease_from seat = record { unit = record { 0 = seat.unit }; epoch = seat.epoch; core = seat.core }

-- that of the unit's task; its core is its part's, run again
abbrev pub lease_of : MachineValue → (unit : ℕ) → Option Lease
lease_of m unit = option_map lease_from (seat_at (machine_of (program m.image) m.plain) unit)

-- no further event is accepted
abbrev pub is_full : MachineValue → Bool
is_full m = nat_le m.config.events m.plain.accepted

-- an active task as it stands: its unit, its entry, its turns so far, and how it has ended, if it has
abbrev pub task_shown : Running State → ActiveTask
task_shown x = record {
  unit = record { 0 = x.task.unit };
  task_entry = x.task.entry;
  turns = x.task.turns;
  done = x.run.core.done;
}

-- the active task at a place, counted from the oldest
abbrev pub task_of : MachineValue → (place : ℕ) → Option ActiveTask
task_of m place = option_map task_shown (slice_get (running (program m.image) m.plain) place)
