-- The whole machine: a versioned map, and a seat for each active task. Its steps run nothing again.
use Rattle.std.specs.Prelude.{ℕ, suc, Bool, true, false, cond, List, [], ◌∷◌, ◌++◌, map, take, Option, Some, None}
use Rattle.svc_core_laws.specs.declared.end.End.{End}
use Rattle.svc_core_laws.specs.Program.{Memory, Want, Local, Load, Store, Narrow, Emit, Program, output, seq, due_after}
use Rattle.svc_core_laws.specs.Program.{stopped_after}
use Rattle.svc_bus_laws.specs.Versioned.{Versioned, with_head, begin, squash}
use Rattle.svc_bus_laws.specs.ByRows.{view_of, edit, read, write}
use Rattle.svc_bus_laws.specs.ByRows as rows
use Rattle.svc_machine_laws.specs.PlainMachine.{Plain, Running, running, row_of, cut_by, stays, cuts_at, entry_for}

-- the seat of an active task: its unit, its epoch, the entry at which it began, its core, and the words that it has
-- output, which wait for its commit
pub record Seat (C : Type 0) : Type 0 where
  pub unit : ℕ
  pub epoch : ℕ
  pub entry : ℕ
  pub core : C
  pub waiting : List ℕ

-- the committed words and the active tasks' versions, the seats, oldest task first, the output of the committed tasks,
-- the due entry, how the run has stopped, the number of accepted events, and the next epoch
pub record Machine (C : Type 0) : Type 0 where
  pub versioned : Versioned
  pub seats : List (Seat C)
  pub output : List ℕ
  pub due : Option ℕ
  pub stopped : Option End
  pub accepted : ℕ
  pub epoch : ℕ

abbrev pub seat_unit : {C : Type 0} → Seat C → ℕ
seat_unit s = s.unit

abbrev pub seat_entry : {C : Type 0} → Seat C → ℕ
seat_entry s = s.entry

-- the seat of a task with this run
abbrev pub seat_of : {C : Type 0} → Running C → Seat C
seat_of x = record {
  unit = x.task.unit;
  epoch = x.task.epoch;
  entry = x.task.entry;
  core = x.run.core;
  waiting = output x.run.log;
}

-- what the plain machine says of the whole machine: the committed tasks are those of the sequential run, and each
-- active task's core, waiting output, versions and exposed words are those of its run, taken again (the head's exposed
-- words are not recorded)
abbrev pub machine_of : {C : Type 0} → Program C → Plain → Machine C
machine_of p s =
    let done = seq p s.commits in
    let runs = running p s in
    record {
      versioned = record { commits = s.commits; committed = done.memory; rows = with_head (map row_of runs) };
      seats = map seat_of runs;
      output = done.output;
      due = done.due;
      stopped = done.stopped;
      accepted = s.accepted;
      epoch = s.epoch;
    }

-- what the task at a place reads
abbrev pub memory_seen : Versioned → ℕ → Memory
memory_seen v place = view_of v.rows v.committed place

abbrev pub at_core : {C : Type 0} → C → Seat C → Seat C
at_core c s = record s { core = c }

-- a turn of a seat that wants this, given what each read sees
abbrev pub seat_turn : {C : Type 0} → Want C → Memory → Seat C → Seat C
seat_turn (Local c) m s = at_core c s
seat_turn (Load a value go) m s = at_core (go (value (m a))) s
seat_turn (Store a w c) m s = at_core c s
seat_turn (Narrow a f c) m s = at_core c s
seat_turn (Emit w c) m s = record s { core = c; waiting = s.waiting ++ w ∷ [] }

-- the steps of the versioned map that such a turn of the task at a place takes
abbrev pub map_turn : {C : Type 0} → Want C → Versioned → ℕ → Versioned
map_turn (Local c) v place = v
map_turn (Load a value go) v place = read v place a
map_turn (Store a w c) v place = write v place a w
map_turn (Narrow a f c) v place = write (read v place a) place a (f (memory_seen v place a))
map_turn (Emit w c) v place = v

-- one more event is accepted, and these are the map and the seats
abbrev pub with_seats : {C : Type 0} → Machine C → Versioned → List (Seat C) → Machine C
with_seats m v seats = record m { versioned = v; seats = seats; accepted = suc m.accepted }

-- a new task on this unit, as the youngest
abbrev pub assign : {C : Type 0} → Program C → Machine C → (unit guess : ℕ) → Machine C
assign p m unit guess =
    let entry = entry_for m.due (map seat_entry m.seats) guess in
    record m {
      versioned = begin m.versioned;
      seats = m.seats
          ++ record { unit = unit; epoch = m.epoch; entry = entry; core = p.start entry; waiting = [] } ∷ [];
      accepted = suc m.accepted;
      epoch = suc m.epoch;
    }

-- the task at a place takes its local turns, which lead to this core, and then the asked turn, if any; the victim and
-- all after it go
abbrev pub submit : {C : Type 0} → Machine C → (place : ℕ) → C → Option (Want C) → Machine C
submit m place end None = with_seats m m.versioned (edit place (at_core end) None m.seats)
submit m place end (Some w) =
    with_seats m (map_turn w m.versioned place)
    (edit place (λ s. seat_turn w (memory_seen m.versioned place) (at_core end s))
    (cut_by w m.versioned.rows place) m.seats)

-- a replacement changes neither the map nor a seat
abbrev pub replace : {C : Type 0} → Machine C → Machine C
replace m = with_seats m m.versioned m.seats

-- the task at a place and all after it go
abbrev pub cancel : {C : Type 0} → Machine C → (place : ℕ) → Machine C
cancel m place = with_seats m (squash m.versioned place) (take place m.seats)

abbrev pub seat_done : {C : Type 0} → Program C → Seat C → Option End
seat_done p s = p.done s.core

-- whether the task at a place has ended, and the next one was guessed wrongly
abbrev pub is_misled : {C : Type 0} → Program C → List (Seat C) → (place : ℕ) → Bool
is_misled p seats place = cuts_at (seat_done p) seat_entry seats place

-- the first n tasks stay; no event is counted
abbrev pub keep : {C : Type 0} → ℕ → Machine C → Machine C
keep n m = record m { versioned = squash m.versioned n; seats = take n m.seats }

-- the check of the guess after the task at a place, once it has ended
abbrev pub check : {C : Type 0} → Program C → Machine C → (place : ℕ) → Machine C
check p m place = cond (is_misled p m.seats place) (keep (suc place) m) m

-- if the next task doesn't stay, the tasks after the head are cut first, while the head is still the head
abbrev pub settle : Versioned → Bool → Versioned
settle v true = v
settle v false = squash v 1

abbrev pub commit_seats : {C : Type 0} → Program C → Machine C → List (Seat C) → Machine C
commit_seats p m [] = with_seats m m.versioned []
commit_seats p m (s ∷ seats) =
    let ended = p.done s.core in
    let keep = stays ended (map seat_entry seats) in
    record m {
      versioned = rows.commit (settle m.versioned keep);
      seats = cond keep seats [];
      output = m.output ++ s.waiting;
      due = due_after ended;
      stopped = stopped_after ended;
      accepted = suc m.accepted;
    }

-- the head is committed, with its output
abbrev pub commit : {C : Type 0} → Program C → Machine C → Machine C
commit p m = commit_seats p m m.seats

-- before any event; the first epoch is given
abbrev pub opening : {C : Type 0} → Program C → (first : ℕ) → Machine C
opening p first =
    record {
      versioned = record { commits = 0; committed = p.words; rows = [] };
      seats = [];
      output = [];
      due = Some p.first;
      stopped = None;
      accepted = 0;
      epoch = first;
    }
