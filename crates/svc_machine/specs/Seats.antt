-- The seats of the active tasks, as the plain machine has them.
use Rattle.std.specs.Prelude.{ℕ, Bool, List, map, Option, option_and_then, slice_get}
use Rattle.svc_core_laws.specs.declared.end.End.{End}
use Rattle.svc_core_laws.specs.State.{State}
use Rattle.svc_machine_laws.specs.PlainMachine.{Task, Plain, cuts_at}
use Rattle.svc_machine_laws.specs.WholeMachine as whole
use Rattle.svc_machine.specs.declared.seat.Seat.{Seat}

-- a seat's task: its turns are its core's count
abbrev pub task_of : Seat → Task
task_of seat = record {
  unit = seat.lease.unit.0;
  epoch = seat.lease.epoch;
  entry = seat.task_entry;
  turns = seat.lease.core.count;
}

-- the plain machine of these counts and seats, oldest task first
abbrev pub plain_of : (commits accepted epoch : ℕ) → List Seat → Plain
plain_of commits accepted epoch seats = record {
  commits = commits;
  accepted = accepted;
  epoch = epoch;
  tasks = map task_of seats;
}

-- how a seat's task has ended, if it has
abbrev pub seat_end : whole.Seat State → Option End
seat_end seat = seat.core.done

-- whether the task at a place has ended and the next one was guessed wrongly
abbrev pub is_misled : List (whole.Seat State) → (place : ℕ) → Bool
is_misled seats place = cuts_at seat_end whole.seat_entry seats place

-- how the oldest of these tasks has ended, if there is one and it has
abbrev pub head_end : List (whole.Seat State) → Option End
head_end seats = option_and_then seat_end (slice_get seats 0)
