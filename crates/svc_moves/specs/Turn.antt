-- The burst that runs a unit's task on by one turn.
use Rattle.std.specs.Prelude.{ℕ, List, [], ◌∷◌, Option, None, Some}
use Rattle.svc_base.specs.declared.ids.UnitId.{UnitId}
use Rattle.svc_image.specs.declared.fetched.Fetched.{Fetched}
use Rattle.svc_image.specs.Image.{Image, fetch_answer}
use Rattle.svc_core_laws.specs.declared.ask.Ask.TheVariants as ask
use Rattle.svc_core_laws.specs.declared.end.End.{End}
use Rattle.svc_core_laws.specs.Bursts.{Advance}
use Rattle.svc_core_laws.specs.Local.{TurnOutcome}
use Rattle.svc_core_laws.specs.Local as out
use Rattle.svc_core_laws.specs.State.{State}
use Rattle.svc_core_laws.specs.Turns.{arrives, next}
use Rattle.svc_core.specs.Empty.{empty_burst}
use Rattle.svc_machine_laws.specs.WholeMachine.{Seat}

-- what is looked at where a task stands, if it runs
abbrev pub look_at : Image → State → Option End → List Fetched
look_at img c None = fetch_answer img c.pc ∷ []
look_at img c (Some end) = []

-- a burst that starts here, before its first turn
abbrev pub before_turn : Image → UnitId → (epoch : ℕ) → State → Advance
before_turn img unit epoch c = record {
  unit = unit;
  epoch = epoch;
  start = c;
  looks = look_at img c c.done;
  local = 0;
  ask = ask.Nothing;
  end = c;
}

-- the burst of a running task whose next turn comes to this: a local turn is done, and what follows it is looked at;
-- any other is asked for
abbrev pub turn_to : Image → UnitId → (epoch : ℕ) → State → TurnOutcome → Advance
turn_to img unit epoch c (out.Local d) = record (before_turn img unit epoch c) {
  looks = fetch_answer img c.pc ∷ look_at img d d.done;
  local = 1;
  end = arrives img d;
}
turn_to img unit epoch c (out.Load kind rd addr) = record (before_turn img unit epoch c) { ask = ask.Load kind rd addr }
turn_to img unit epoch c (out.Store kind addr v) = record (before_turn img unit epoch c) { ask = ask.Store kind addr v }
turn_to img unit epoch c (out.Emit w) = record (before_turn img unit epoch c) { ask = ask.Emit w }

-- the burst of one turn, or of none if the task has ended
abbrev pub turn_unless : Image → UnitId → (epoch : ℕ) → State → Option End → Advance
turn_unless img unit epoch c None = turn_to img unit epoch c (next img c)
turn_unless img unit epoch c (Some end) = before_turn img unit epoch c

abbrev pub one_turn : Image → UnitId → (epoch : ℕ) → State → Advance
one_turn img unit epoch c = turn_unless img unit epoch c c.done

-- that of the unit's task; a unit without a task has a burst without turns
abbrev pub turn_of : Image → UnitId → Option (Seat State) → Advance
turn_of img unit None = empty_burst unit
turn_of img unit (Some seat) = one_turn img (record { 0 = seat.unit }) seat.epoch seat.core
