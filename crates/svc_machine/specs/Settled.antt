-- What the check of a guess leaves of the bus, the sequencer and the seats.
use Rattle.std.specs.Prelude.{◌≡◌, ◌<◌, ◌+◌, ◌^◌, ℕ, suc, Bool, cond, List, map, take, Option, None, Some}
use Rattle.svc_bus_laws.specs.LineTable.{LineTable}
use Rattle.svc_bus_laws.specs.BusState.{Agrees}
use Rattle.svc_bus_laws.specs.Steps.{squash}
use Rattle.svc_bus.specs.State.{bus_state}
use Rattle.svc_bus.specs.Value.{BusValue}
use Rattle.svc_machine_laws.specs.declared.reply.Cause.TheVariants as cause
use Rattle.svc_machine_laws.specs.declared.reply.Cut.{Cut}
use Rattle.svc_machine_laws.specs.Guide.{Guide, guide_cut}
use Rattle.svc_machine_laws.specs.Replies.{cut_from}
use Rattle.svc_machine_laws.specs.WholeMachine.{seat_entry, seat_unit}
use Rattle.svc_machine.specs.declared.seat.Seat.{Seat}
use Rattle.svc_machine.specs.Kept.{whole_seat}

-- bus and sequencer have the tasks of these seats, and the numbers of a cut after this place fit
pub record HaveTasks (bus : BusValue) (guide : Guide) (seats : List Seat) (commits count place : ℕ) : Type 0 where
  pub lined : guide.active ≡ map seat_entry (map whole_seat seats)
  pub units : (t : LineTable) × Agrees (bus_state bus) t × (t.units ≡ map seat_unit (map whole_seat seats))
  pub number : commits + place + 1 < 2 ^ 64
  pub few : count < 2 ^ 32

-- if the next task was guessed wrongly, the tasks after this place are gone, and the answer is their cut; otherwise
-- nothing has changed. `before` and `now` say for how many seats there is memory.
pub record IsSettled (wrong : Bool) (commits count place : ℕ) (old_bus new_bus : BusValue) (old_guide new_guide : Guide)
    (old_seats new_seats : List Seat) (before now : ℕ) (answer : Option Cut) : Type 0 where
  pub cut : answer ≡ cond wrong (Some (cut_from cause.WrongGuess commits count (suc place))) None
  pub lines : (t : LineTable) → Agrees (bus_state old_bus) t
      → Agrees (bus_state new_bus) (cond wrong (squash t (suc place)) t)
  pub seats : new_seats ≡ cond wrong (take (suc place) old_seats) old_seats
  pub guide : new_guide ≡ cond wrong (guide_cut (suc place) old_guide) old_guide
  pub capacity : now ≡ before
