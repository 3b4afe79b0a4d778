-- The machine's events, and what each does to the plain machine and to the whole machine.
use Rattle.std.specs.Prelude.{ℕ, suc, ◌==◌, cond, List, [], ◌∷◌, map, Option, Some, None, option_map, is_some}
use Rattle.svc_image.specs.Image.{Image}
use Rattle.svc_core_laws.specs.declared.ask.Ask.{Ask}
use Rattle.svc_core_laws.specs.declared.ask.Ask.TheVariants as ask
use Rattle.svc_core_laws.specs.State.{State}
use Rattle.svc_core_laws.specs.Program.{Want}
use Rattle.svc_core_laws.specs.Words.{program, outcome_want}
use Rattle.svc_core_laws.specs.Bursts.{Advance, Follows, burst_outcome}
use Rattle.svc_machine_laws.specs.PlainMachine.{Plain, unit_of}
use Rattle.svc_machine_laws.specs.PlainMachine as plain
use Rattle.svc_machine_laws.specs.WholeMachine.{Machine, seat_unit}
use Rattle.svc_machine_laws.specs.WholeMachine as whole

pub data Event : Type 0 where
  -- to begin the next task on this unit, at this guess
  Assign : (unit guess : ℕ) → Event
  -- to take over a burst of the unit's task, and to do its asked turn
  Submit : Advance → Event
  -- to remove the line of this word from the unit's cache
  Replace : (unit address : ℕ) → Event
  -- to squash the unit's task and all after it
  Cancel : (unit : ℕ) → Event
  -- to commit the head; this unit asks
  Commit : (by : ℕ) → Event

-- what the type of an event guarantees: a burst's end is what its looks do from its start
abbrev pub IsEvent : Event → Type 0
IsEvent (Assign unit guess) = Unit {0}
IsEvent (Submit b) = Follows b
IsEvent (Replace unit address) = Unit {0}
IsEvent (Cancel unit) = Unit {0}
IsEvent (Commit by) = Unit {0}

-- the place of a unit's task
abbrev pub place_in : List ℕ → ℕ → Option ℕ
place_in [] unit = None
place_in (x ∷ units) unit = cond (x == unit) (Some 0) (option_map suc (place_in units unit))

-- the place of the unit's task, by tasks and by seats
abbrev pub task_place : Plain → ℕ → Option ℕ
task_place s unit = place_in (map unit_of s.tasks) unit

abbrev pub seat_place : {C : Type 0} → Machine C → ℕ → Option ℕ
seat_place m unit = place_in (map seat_unit m.seats) unit

-- what an asked turn at this core wants of the words
abbrev pub want_of : Image → State → Ask → Option (Want State)
want_of img c ask.Nothing = None
want_of img c (ask.Load kind rd addr) = Some (outcome_want img c (burst_outcome c (ask.Load kind rd addr)))
want_of img c (ask.Store kind addr v) = Some (outcome_want img c (burst_outcome c (ask.Store kind addr v)))
want_of img c (ask.Emit w) = Some (outcome_want img c (burst_outcome c (ask.Emit w)))

-- what the asked turn of a burst wants, if there is one
abbrev pub asked_want : Image → Advance → Option (Want State)
asked_want img b = want_of img b.end b.ask

-- an accepted event of the plain machine
abbrev pub plain_submit : Image → Plain → Option ℕ → Advance → Plain
plain_submit img s None b = s
plain_submit img s (Some place) b =
    plain.check (program img) (plain.submit (program img) s place b.local (is_some (asked_want img b))) place

abbrev pub plain_cancel : Plain → Option ℕ → Plain
plain_cancel s None = s
plain_cancel s (Some place) = plain.cancel s place

-- what an accepted event does to the plain machine
unfoldable pub plain_event : Image → Plain → Event → Plain
plain_event img s (Assign unit guess) = plain.assign (program img) s unit guess
plain_event img s (Submit b) = plain_submit img s (task_place s b.unit.0) b
plain_event img s (Replace unit address) = plain.replace s
plain_event img s (Cancel unit) = plain_cancel s (task_place s unit)
plain_event img s (Commit by) = plain.commit (program img) s

-- an accepted event of the whole machine
abbrev pub whole_submit : Image → Machine State → Option ℕ → Advance → Machine State
whole_submit img m None b = m
whole_submit img m (Some place) b = whole.check (program img) (whole.submit m place b.end (asked_want img b)) place

abbrev pub whole_cancel : Machine State → Option ℕ → Machine State
whole_cancel m None = m
whole_cancel m (Some place) = whole.cancel m place

-- what an accepted event does to the whole machine
unfoldable pub whole_event : Image → Machine State → Event → Machine State
whole_event img m (Assign unit guess) = whole.assign (program img) m unit guess
whole_event img m (Submit b) = whole_submit img m (seat_place m b.unit.0) b
whole_event img m (Replace unit address) = whole.replace m
whole_event img m (Cancel unit) = whole_cancel m (seat_place m unit)
whole_event img m (Commit by) = whole.commit (program img) m
