-- The output words are at most as many as the accepted events.
use Rattle.std.proofs.Common.{ℕ, zero, suc, ◌≡◌, ◌+◌, ◌≤◌, Bool, true, false, cond, List, [], ◌∷◌, ◌++◌, map, take, length, Option, Some, None, refl, ap, ◌∙◌, is_some, slice_get, arith, length-append}
use Rattle.svc_core_laws.specs.declared.end.End.{End}
use Rattle.svc_core_laws.specs.Program.{Memory, Program, Want, Local, Load, Store, Narrow, Emit, Run, Seq, act, over, wrote, output, part, seq, locals, IsProgram}
use Rattle.svc_bus_laws.specs.Versioned.{Row}
use Rattle.svc_bus_laws.specs.ByRows.{view_of, edit, cut_at}
use Rattle.svc_machine_laws.specs.PlainMachine.{Task, Plain, Running, IsDue, runs_of, running, row_of, cut_by, stays, staying_tasks, entry_of, commit_tasks}
use Rattle.svc_machine_laws.specs.PlainMachine as plain
use Rattle.svc_machine_laws.specs.MachineLaws.{Taken}
use Rattle.svc_machine_laws.specs.Reached.{words_waiting}
use Rattle.svc_machine_laws.proofs.Parts.{seq_commit}
use Rattle.svc_machine_laws.proofs.Steps.{runs_append, runs_take}
use Rattle.svc_machine_laws.proofs.Submits.{local_run, local_runs, asked_run, asked_runs}

take_waiting : {C : Type 0} (n : ℕ) (xs : List (Running C)) → words_waiting (take n xs) ≤ words_waiting xs
take_waiting zero xs = omega arith
take_waiting (suc n) [] = omega arith
take_waiting (suc n) (x ∷ xs) = let ih = take_waiting n xs in omega (arith, ih)

cut_waiting : {C : Type 0} (c : Option ℕ) (xs : List (Running C)) → words_waiting (cut_at c xs) ≤ words_waiting xs
cut_waiting None xs = omega arith
cut_waiting (Some n) xs = take_waiting n xs

-- a change of one run that outputs at most so many words
edit_waiting : {C : Type 0} (most place : ℕ) (f : Running C → Running C) (c : Option ℕ) (xs : List (Running C)) → ((x : Running C) → length (output (f x).run.log) ≤ length (output x.run.log) + most)
    → words_waiting (edit place f c xs) ≤ words_waiting xs + most
edit_waiting most place f c [] h = omega arith
edit_waiting most zero f c (x ∷ xs) h = let here = h x in let rest = cut_waiting c xs in omega (arith, here, rest)
edit_waiting most (suc place) f c (x ∷ xs) h = let ih = edit_waiting most place f c xs h in omega (arith, ih)

append_waiting : {C : Type 0} (xs : List (Running C)) (y : Running C) → words_waiting (xs ++ y ∷ []) ≡ words_waiting xs + length (output y.run.log)
append_waiting [] y = omega arith
append_waiting (x ∷ xs) y = let ih = append_waiting xs y in omega (arith, ih)

-- a turn outputs at most one word
act_outputs : {C : Type 0} (w : Want C) (look : Memory) (x : Running C) → length (output (act w look x.run.log).log) ≤ length (output x.run.log) + 1
act_outputs (Local c) look x = omega arith
act_outputs (Load a value go) look x = omega arith
act_outputs (Store a v c) look x = omega arith
act_outputs (Narrow a f c) look x = omega arith
act_outputs (Emit v c) look x = let n = length-append (output x.run.log) (v ∷ []) in omega (arith, n)

pub assign_waiting : {C : Type 0} (p : Program C) (s : Plain) (unit guess : ℕ) → words_waiting (running p (plain.assign p s unit guess)) ≡ words_waiting (running p s)
assign_waiting p s unit guess =
    let e = ap words_waiting (runs_append p (seq p s.commits).memory s.tasks unit s.epoch (plain.entry_for (seq p s.commits).due (map entry_of s.tasks) guess)) in
    e ∙ append_waiting (running p s) _ ∙ (let z : words_waiting (running p s) + 0 ≡ words_waiting (running p s) = omega arith in z)

pub cancel_waiting : {C : Type 0} (p : Program C) (s : Plain) (place : ℕ) → words_waiting (running p (plain.cancel s place)) ≤ words_waiting (running p s)
cancel_waiting p s place =
    let e = ap words_waiting (runs_take p (seq p s.commits).memory place s.tasks) in
    let h = take_waiting place (running p s) in
    omega (arith, e, h)

pub submit_waiting : {C : Type 0} (p : Program C) (s : Plain) (place local : ℕ) (last : C) (ask : Option (Want C)) → Taken p s place local last ask
    → words_waiting (running p (plain.submit p s place local (is_some ask))) ≤ words_waiting (running p s) + 1
submit_waiting p s place local last None t =
    let e = ap words_waiting (local_runs p local (seq p s.commits).memory s.tasks place t.run t.at t.own) in
    let h = edit_waiting 0 place (local_run p local) None (running p s) (λ x. omega arith) in
    omega (arith, e, h)
submit_waiting {C} p s place local last (Some w) t =
    let m : Memory = (seq p s.commits).memory in
    let rows : List Row = map row_of (running p s) in
    let wants : Want C = p.want (locals p local t.run.run.core) in
    let e = ap words_waiting (asked_runs p local m s.tasks place t.run t.at t.own) in
    let h = edit_waiting 1 place (asked_run p local wants (view_of rows m place)) (cut_by wants rows place) (running p s) (λ x. act_outputs wants (view_of rows m place) (local_run p local x)) in
    omega (arith, e, h)

kept_waiting : {C : Type 0} (p : Program C) (b : Bool) (m : Memory) (ts : List Task) → words_waiting (runs_of p m (cond b ts [])) ≤ words_waiting (runs_of p m ts)
kept_waiting p true m ts = omega arith
kept_waiting p false m ts = omega arith

pub commit_waiting : {C : Type 0} (p : Program C) → IsProgram p → (k a e : ℕ) (ts : List Task) (ended : End) → IsDue (seq p k).due ts
    → ((x : Running C) → slice_get (runs_of p (seq p k).memory ts) 0 ≡ Some x → p.done x.run.core ≡ Some ended)
    → let s : Plain = commit_tasks p (record { commits = k; accepted = a; epoch = e; tasks = ts }) ts in
    length (seq p s.commits).output + words_waiting (running p s) ≤ length (seq p k).output + words_waiting (runs_of p (seq p k).memory ts)
commit_waiting p good k a e [] ended due done = omega arith
commit_waiting {C} p good k a e (t ∷ ts) ended due done =
    let r : Run C = part p t.entry t.turns (seq p k).memory in
    let after = seq_commit p good k t.entry t.turns ended due (done (record { task = t; run = r }) refl) in
    let out = ap (λ (q : Seq). length q.output) after ∙ length-append (seq p k).output (output r.log) in
    let runs = ap (λ (q : Seq). words_waiting (runs_of p q.memory (staying_tasks (p.done r.core) ts))) after in
    let kept = kept_waiting p (stays (p.done r.core) (map entry_of ts)) (over (wrote r.log) (seq p k).memory) ts in
    omega (arith, out, runs, kept)
