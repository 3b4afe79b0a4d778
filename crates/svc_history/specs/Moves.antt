-- What a unit does next, given what it sees.
use Rattle.std.specs.Prelude.{ℕ, Bool, if◌then◌else◌, is_none, Option, None, Some}
use Rattle.svc_core.specs.declared.burst.Lease.{Lease}
use Rattle.svc_history.specs.declared.glance.Glance.{Glance}
use Rattle.svc_history.specs.declared.glance.Move.{Move}
use Rattle.svc_history.specs.declared.glance.Move.TheVariants as move
use Rattle.svc_history.specs.Glances.{glance_of}
use Rattle.svc_machine.specs.Value.{MachineValue}

-- a unit's next move, with its lease as a value
pub data NextMove : Type 0 where
  -- it begins a task at this guess
  Begin : (guess : ℕ) → NextMove
  -- it runs its task on from here
  RunOn : Lease → NextMove
  -- it commits the head, which is its own
  Commit : NextMove
  -- it can do nothing before another unit's event
  Wait : NextMove
  -- the run has ended
  Ended : NextMove

-- the move that code answers, which lends the lease
abbrev pub code_move : Move → NextMove
code_move (move.Begin guess) = Begin guess
code_move (move.RunOn lease) = RunOn lease.now
code_move move.Commit = Commit
code_move move.Wait = Wait
code_move move.Ended = Ended

-- with a task: it runs the task on until that has ended, and then commits it if it is the head
abbrev pub with_task : Lease → (is_head : Bool) → NextMove
with_task lease is_head = if is_none lease.core.done then RunOn lease else if is_head then Commit else Wait

-- without a task
abbrev pub without_task : (guess : Option ℕ) → NextMove
without_task (Some guess) = Begin guess
without_task None = Wait

-- in a run that goes on
abbrev pub in_run : Option Lease → (is_head : Bool) → (guess : Option ℕ) → NextMove
in_run (Some lease) is_head guess = with_task lease is_head
in_run None is_head guess = without_task guess

-- the next move that follows from a glance
abbrev pub next_move : Glance → NextMove
next_move g = if g.ended then Ended else in_run g.lease g.is_head g.guess

-- what a unit of a machine does next, given what it sees
abbrev pub move_of : MachineValue → (unit : ℕ) → NextMove
move_of m unit = next_move (glance_of m unit)
