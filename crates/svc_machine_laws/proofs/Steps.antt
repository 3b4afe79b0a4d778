-- The other events: the whole machine's step is the plain machine's.
use Rattle.std.proofs.Common.{ℕ, zero, suc, ◌≡◌, Bool, true, false, cond, List, [], ◌∷◌, ◌++◌, map, take, Some, refl, sym, ap, ap₂, ◌∙◌, slice_get}
use Rattle.svc_core_laws.specs.declared.end.End.{End}
use Rattle.svc_core_laws.specs.Program.{Memory, Program, Run, wrote, output, over, part, Seq, seq, followed_by, due_after, stopped_after, IsProgram}
use Rattle.svc_bus_laws.specs.Versioned.{Row, with_head, fresh_row}
use Rattle.svc_bus_laws.specs.ByRows as rows
use Rattle.svc_machine_laws.specs.PlainMachine.{Task, Plain, Running, IsDue, runs_of, running, row_of, stays, staying_tasks, entry_of, entry_for, assign, cancel, commit, commit_tasks}
use Rattle.svc_machine_laws.specs.WholeMachine.{Seat, Machine, seat_of, machine_of, with_seats, settle, seat_entry}
use Rattle.svc_machine_laws.specs.WholeMachine as whole
use Rattle.svc_machine_laws.specs.MachineLaws.{HasEnded}
use Rattle.svc_machine_laws.proofs.EditedLists.{map_take, map_append_one, hide_take}
use Rattle.svc_machine_laws.proofs.Parts.{seq_commit}
use Rattle.svc_machine_laws.proofs.Submits.{machine_by}

-- what is read off the runs is read off the tasks
pub map_runs : {C X : Type 0} (p : Program C) (f : Seat C → X) (g : Task → X) → ((x : Running C) → f (seat_of x) ≡ g x.task)
    → (m : Memory) (ts : List Task) → map f (map seat_of (runs_of p m ts)) ≡ map g ts
map_runs p f g e m [] = refl
map_runs {C} {X} p f g e m (t ∷ ts) =
    let r : Run C = part p t.entry t.turns m in
    ap₂ (λ (y : X) (ys : List X). y ∷ ys) (e (record { task = t; run = r })) (map_runs p f g e (over (wrote r.log) m) ts)

-- one more task, which has taken no turn
pub runs_append : {C : Type 0} (p : Program C) (m : Memory) (ts : List Task) (u e entry : ℕ)
    → runs_of p m (ts ++ record { unit = u; epoch = e; entry = entry; turns = 0 } ∷ [])
    ≡ runs_of p m ts ++ record { task = record { unit = u; epoch = e; entry = entry; turns = 0 }; run = record { core = p.start entry; log = [] } } ∷ []
runs_append p m [] u e entry = refl
runs_append {C} p m (t ∷ ts) u e entry =
    let r : Run C = part p t.entry t.turns m in
    ap {B = List (Running C)} (λ q. record { task = t; run = r } ∷ q) (runs_append p (over (wrote r.log) m) ts u e entry)

hide_append : (rows : List Row) → with_head (rows ++ fresh_row ∷ []) ≡ with_head rows ++ fresh_row ∷ []
hide_append [] = refl
hide_append (row ∷ rows) = refl

-- ASSIGN
pub assign_step : {C : Type 0} (p : Program C) (s : Plain) (unit guess : ℕ) → machine_of p (assign p s unit guess) ≡ whole.assign p (machine_of p s) unit guess
assign_step {C} p s unit guess =
    let q : Seq = seq p s.commits in
    let runs : List (Running C) = running p s in
    let entry : ℕ = entry_for q.due (map entry_of s.tasks) guess in
    let x : Running C = record { task = record { unit = unit; epoch = s.epoch; entry = entry; turns = 0 }; run = record { core = p.start entry; log = [] } } in
    let after : List (Seat C) → List Row → ℕ → Machine C =
    λ seats rows e.
    record {
      versioned = record { commits = s.commits; committed = q.memory; rows = rows };
      seats = seats ++ record { unit = unit; epoch = s.epoch; entry = e; core = p.start e; waiting = [] } ∷ [];
      output = q.output;
      due = q.due;
      stopped = q.stopped;
      accepted = suc s.accepted;
      epoch = suc s.epoch;
    } in
    let by : List (Seat C) → List Row → Machine C =
    λ seats rows.
    record {
      versioned = record { commits = s.commits; committed = q.memory; rows = rows };
      seats = seats;
      output = q.output;
      due = q.due;
      stopped = q.stopped;
      accepted = suc s.accepted;
      epoch = suc s.epoch;
    } in
    ap (machine_by q s.commits (suc s.accepted) (suc s.epoch)) (runs_append p q.memory s.tasks unit s.epoch entry)
    ∙ ap₂ by (map_append_one seat_of runs x) (ap with_head (map_append_one row_of runs x) ∙ hide_append (map row_of runs))
    ∙ ap (λ l. after (map seat_of runs) (with_head (map row_of runs) ++ fresh_row ∷ []) (entry_for q.due l guess)) (sym (map_runs p seat_entry entry_of (λ y. refl) q.memory s.tasks))

pub runs_take : {C : Type 0} (p : Program C) (m : Memory) (n : ℕ) (ts : List Task) → runs_of p m (take n ts) ≡ take n (runs_of p m ts)
runs_take p m zero ts = refl
runs_take p m (suc n) [] = refl
runs_take {C} p m (suc n) (t ∷ ts) =
    let r : Run C = part p t.entry t.turns m in
    ap {B = List (Running C)} (λ q. record { task = t; run = r } ∷ q) (runs_take p (over (wrote r.log) m) n ts)

-- CANCEL
pub cancel_step : {C : Type 0} (p : Program C) (s : Plain) (place : ℕ) → machine_of p (cancel s place) ≡ whole.cancel (machine_of p s) place
cancel_step {C} p s place =
    let q : Seq = seq p s.commits in
    let runs : List (Running C) = running p s in
    ap (machine_by q s.commits (suc s.accepted) s.epoch) (runs_take p q.memory place s.tasks)
    ∙ ap₂ (λ a b. with_seats (machine_of p s) (record { commits = s.commits; committed = q.memory; rows = a }) b)
    (ap with_head (map_take row_of place runs) ∙ hide_take place (map row_of runs))
    (map_take seat_of place runs)

-- what is left of the runs and of the map when the sequencer has settled
settled_machine : {C : Type 0} (p : Program C) (s : Plain) (t : Task) (ts : List Task) (keep : Bool)
    → let q = seq p s.commits in
    let r = part p t.entry t.turns q.memory in
    let next = followed_by p q r in
    let runs = runs_of p next.memory ts in
    machine_by next (suc s.commits) (suc s.accepted) s.epoch (runs_of p next.memory (cond keep ts []))
    ≡ record {
      versioned = rows.commit (settle (record { commits = s.commits; committed = q.memory; rows = with_head (row_of (record { task = t; run = r }) ∷ map row_of runs) }) keep);
      seats = cond keep (map seat_of runs) [];
      output = q.output ++ output r.log;
      due = due_after (p.done r.core);
      stopped = stopped_after (p.done r.core);
      accepted = suc s.accepted;
      epoch = s.epoch;
    }
settled_machine p s t ts true = refl
settled_machine p s t ts false = refl

-- COMMIT of a head that has ended
commit_tasks_step : {C : Type 0} (p : Program C) → IsProgram p → (k accepted epoch : ℕ) (ts : List Task) (end : End)
    → IsDue (seq p k).due ts
    → ((x : Running C) → slice_get (runs_of p (seq p k).memory ts) 0 ≡ Some x → p.done x.run.core ≡ Some end)
    → let s : Plain = record { commits = k; accepted = accepted; epoch = epoch; tasks = ts } in
    machine_of p (commit_tasks p s ts) ≡ whole.commit p (machine_of p s)
commit_tasks_step p good k accepted epoch [] end due ended = refl
commit_tasks_step {C} p good k accepted epoch (t ∷ ts) end due ended =
    let s : Plain = record { commits = k; accepted = accepted; epoch = epoch; tasks = t ∷ ts } in
    let q : Seq = seq p k in
    let r : Run C = part p t.entry t.turns q.memory in
    let next : Seq = followed_by p q r in
    let runs : List (Running C) = runs_of p next.memory ts in
    let keep : List ℕ → Bool = stays (p.done r.core) in
    let of : Bool → Machine C =
    λ b.
    record {
      versioned = rows.commit (settle (record { commits = k; committed = q.memory; rows = with_head (row_of (record { task = t; run = r }) ∷ map row_of runs) }) b);
      seats = cond b (map seat_of runs) [];
      output = q.output ++ output r.log;
      due = due_after (p.done r.core);
      stopped = stopped_after (p.done r.core);
      accepted = suc accepted;
      epoch = epoch;
    } in
    ap (λ x. machine_by x (suc k) (suc accepted) epoch (runs_of p x.memory (staying_tasks (p.done r.core) ts)))
    (seq_commit p good k t.entry t.turns end due (ended (record { task = t; run = r }) refl))
    ∙ settled_machine p s t ts (keep (map entry_of ts))
    ∙ ap (λ l. of (keep l)) (sym (map_runs p seat_entry entry_of (λ y. refl) next.memory ts))

pub commit_step : {C : Type 0} (p : Program C) → IsProgram p → (s : Plain) → IsDue (seq p s.commits).due s.tasks → HasEnded p s
    → machine_of p (commit p s) ≡ whole.commit p (machine_of p s)
commit_step p good s due h = commit_tasks_step p good s.commits s.accepted s.epoch s.tasks h.end due h.is
