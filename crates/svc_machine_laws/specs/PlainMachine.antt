-- The plain machine: counts of turns, from which all else follows by running the program again.
use Rattle.std.specs.Prelude.{ℕ, zero, suc, ◌≡◌, ◌==◌, ◌+◌, Bool, true, false, cond, not, List, [], ◌∷◌, ◌++◌, map}
use Rattle.std.specs.Prelude.{take, Option, Some, None, unwrap_or, slice_get}
use Rattle.svc_core_laws.specs.declared.end.End.{End}
use Rattle.svc_core_laws.specs.declared.end.End.TheVariants as end
use Rattle.svc_core_laws.specs.Program.{Memory, Want, Local, Load, Store, Narrow, Emit, Program, Run, wrote}
use Rattle.svc_core_laws.specs.Program.{exposed_words}
use Rattle.svc_core_laws.specs.Program.{over, part, seq}
use Rattle.svc_bus_laws.specs.Versioned.{Row}
use Rattle.svc_bus_laws.specs.ByRows.{victim_after, edit}

-- an active task: its unit, its epoch, the entry at which it began, and its turns so far
pub record Task : Type 0 where
  pub unit : ℕ
  pub epoch : ℕ
  pub entry : ℕ
  pub turns : ℕ

-- the number of commits, the number of accepted events, the next epoch, and the active tasks, oldest first
pub record Plain : Type 0 where
  pub commits : ℕ
  pub accepted : ℕ
  pub epoch : ℕ
  pub tasks : List Task

abbrev pub unit_of : Task → ℕ
unit_of t = t.unit

abbrev pub entry_of : Task → ℕ
entry_of t = t.entry

-- a task and its run
pub record Running (C : Type 0) : Type 0 where
  pub task : Task
  pub run : Run C

-- the run of each task: the first begins on this memory, and each next one on what the one before leaves
abbrev pub runs_of : {C : Type 0} → Program C → Memory → List Task → List (Running C)
runs_of p m [] = []
runs_of p m (t ∷ ts) =
    let run = part p t.entry t.turns m in
    record { task = t; run = run } ∷ runs_of p (over (wrote run.log) m) ts

-- the memory on which the task at a place runs: what the tasks before it leave
abbrev pub memory_at : {C : Type 0} → Program C → Memory → List Task → ℕ → Memory
memory_at p m [] place = m
memory_at p m (t ∷ ts) zero = m
memory_at p m (t ∷ ts) (suc place) = memory_at p (over (wrote (part p t.entry t.turns m).log) m) ts place

-- the run of a task that begins on this memory
abbrev pub run_of : {C : Type 0} → Program C → Memory → Task → Running C
run_of p m t = record { task = t; run = part p t.entry t.turns m }

-- the runs of the active tasks, from what the committed ones leave
abbrev pub running : {C : Type 0} → Program C → Plain → List (Running C)
running p s = runs_of p (seq p s.commits).memory s.tasks

-- what the task wrote, and which words it exposed
abbrev pub row_of : {C : Type 0} → Running C → Row
row_of x = record { versions = wrote x.run.log; exposed = exposed_words x.run.log }

-- more turns of a task
abbrev pub more : ℕ → Task → Task
more n t = record t { turns = n + t.turns }

-- one more turn of a task
abbrev pub one_more : Task → Task
one_more t = record t { turns = suc t.turns }

-- the victim of a turn that wants this, counted from the task after it
abbrev pub cut_by : {C : Type 0} → Want C → List Row → ℕ → Option ℕ
cut_by (Local c) rows place = None
cut_by (Load a value go) rows place = None
cut_by (Store a w c) rows place = victim_after rows place a
cut_by (Narrow a f c) rows place = victim_after rows place a
cut_by (Emit w c) rows place = None

-- one more turn of the task at a place, if there is one; its victim and all after it go
abbrev pub take_turn_by : {C : Type 0} → Program C → List (Running C) → List Task → ℕ → Option (Running C) → List Task
take_turn_by p runs ts place None = ts
take_turn_by p runs ts place (Some x) = edit place one_more (cut_by (p.want x.run.core) (map row_of runs) place) ts

-- one more turn of the task at a place; its victim and all after it go
abbrev pub take_turn : {C : Type 0} → Program C → Memory → List Task → ℕ → List Task
take_turn p m ts place = take_turn_by p (runs_of p m ts) ts place (slice_get (runs_of p m ts) place)

-- this many local turns, and one more if there is an ask
abbrev pub tasks_after_submit : {C : Type 0} → Program C → Memory → List Task → ℕ → ℕ → Bool → List Task
tasks_after_submit p m ts place local false = edit place (more local) None ts
tasks_after_submit p m ts place local true = take_turn p m (edit place (more local) None ts) place

-- whether the next task stays when a head with this end is committed: it does if it began where the head handed on
abbrev pub stays : Option End → List ℕ → Bool
stays None entries = false
stays (Some (end.Exit code)) entries = false
stays (Some (end.Trap number)) entries = false
stays (Some (end.Next e)) [] = false
stays (Some (end.Next e)) (x ∷ entries) = x == e

-- the tasks that stay
abbrev pub staying_tasks : Option End → List Task → List Task
staying_tasks ended ts = cond (stays ended (map entry_of ts)) ts []

-- whether a task with this end cuts the next ones, which began at these entries: without a next one it doesn't; an exit
-- or trap always does, and otherwise it does if the next one began elsewhere
abbrev pub cuts_next : End → (others : List ℕ) → Bool
cuts_next ended [] = false
cuts_next ended (x ∷ others) = not (stays (Some ended) (x ∷ others))

-- a task that has not ended cuts none
abbrev pub cuts_after : Option End → (others : List ℕ) → Bool
cuts_after None others = false
cuts_after (Some ended) others = cuts_next ended others

-- whether the task at a place has ended and cuts the next ones, given how each has ended and where it began
abbrev pub cuts_at : {A : Type 0} → (A → Option End) → (A → ℕ) → List A → (place : ℕ) → Bool
cuts_at done entry [] place = false
cuts_at done entry (x ∷ xs) zero = cuts_after (done x) (map entry xs)
cuts_at done entry (x ∷ xs) (suc place) = cuts_at done entry xs place

abbrev pub run_done : {C : Type 0} → Program C → Running C → Option End
run_done p x = p.done x.run.core

abbrev pub run_entry : {C : Type 0} → Running C → ℕ
run_entry x = x.task.entry

-- whether the task at a place has ended, and the next one was guessed wrongly
abbrev pub is_misled : {C : Type 0} → Program C → Plain → (place : ℕ) → Bool
is_misled p s place = cuts_at (run_done p) run_entry (running p s) place

-- the first n tasks stay; no event is counted
abbrev pub keep : ℕ → Plain → Plain
keep n s = record s { tasks = take n s.tasks }

-- the check of the guess after the task at a place: once it has ended, the next task and all after it go if the guess
-- was wrong
abbrev pub check : {C : Type 0} → Program C → Plain → (place : ℕ) → Plain
check p s place = cond (is_misled p s place) (keep (suc place) s) s

-- the entry of a new task: the due one if no task is active, otherwise the guess
abbrev pub entry_for : Option ℕ → List ℕ → ℕ → ℕ
entry_for due [] guess = unwrap_or due guess
entry_for due (x ∷ entries) guess = guess

-- one more event is accepted, and these are the tasks
abbrev pub accept : Plain → List Task → Plain
accept s ts = record s { accepted = suc s.accepted; tasks = ts }

-- a new task on this unit, as the youngest
abbrev pub assign : {C : Type 0} → Program C → Plain → (unit guess : ℕ) → Plain
assign p s unit guess =
    record s {
      accepted = suc s.accepted;
      epoch = suc s.epoch;
      tasks = s.tasks ++ record {
        unit = unit;
        epoch = s.epoch;
        entry = entry_for (seq p s.commits).due (map entry_of s.tasks) guess;
        turns = 0;
      } ∷ [];
    }

-- turns of the task at a place: this many local ones, and one more if there is an ask
abbrev pub submit : {C : Type 0} → Program C → Plain → (place local : ℕ) → Bool → Plain
submit p s place local ask = accept s (tasks_after_submit p (seq p s.commits).memory s.tasks place local ask)

-- a replacement changes no task
abbrev pub replace : Plain → Plain
replace s = accept s s.tasks

-- the task at a place and all after it go
abbrev pub cancel : Plain → (place : ℕ) → Plain
cancel s place = accept s (take place s.tasks)

-- the first of these tasks is committed; the others stay if it ended at an entry and the next one began there
abbrev pub commit_tasks : {C : Type 0} → Program C → Plain → List Task → Plain
commit_tasks p s [] = accept s []
commit_tasks p s (t ∷ ts) =
    record s {
      commits = suc s.commits;
      accepted = suc s.accepted;
      tasks = staying_tasks (p.done (part p t.entry t.turns (seq p s.commits).memory).core) ts;
    }

-- the head is committed
abbrev pub commit : {C : Type 0} → Program C → Plain → Plain
commit p s = commit_tasks p s s.tasks

-- before any event; the first epoch is given
abbrev pub plain_opening : (first : ℕ) → Plain
plain_opening first = record { commits = 0; accepted = 0; epoch = first; tasks = [] }

-- the head, if there is one, is the task that is due
abbrev pub IsDue : Option ℕ → List Task → Type 0
IsDue due [] = Unit {0}
IsDue due (t ∷ ts) = due ≡ Some t.entry
