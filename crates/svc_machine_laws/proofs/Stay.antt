-- What each accepted event keeps of the plain machine: entries, turns, and that a stopped run has no task.
use Rattle.std.proofs.Common.{ℕ, suc, ◌≡◌, ◌+◌, Bool, true, false, cond, not, ◌&&◌, List, [], ◌∷◌, ◌++◌, map, take, Option, Some, None, refl, sym, ap, ◌∙◌, subst, arith, is_some, unwrap_or, slice_get}
use Rattle.std.specs.List.{AllByRecursion}
use Rattle.std.proofs.lemmas.Option.{same_Some}
use borrow.Author.Tests.{both_ways, not-false}
use Rattle.svc_image.specs.Image.{Image, is_entry}
use Rattle.svc_core_laws.specs.declared.end.End.{End}
use Rattle.svc_core_laws.specs.declared.end.End.TheVariants as end
use Rattle.svc_core_laws.specs.State.{State}
use Rattle.svc_core_laws.specs.Program.{Memory, Program, Want, Local, Load, Store, Narrow, Emit, Run, over, wrote, part, seq, locals, stopped_after, IsProgram}
use Rattle.svc_core_laws.specs.Words.{program}
use Rattle.svc_bus_laws.specs.Versioned.{Row}
use Rattle.svc_bus_laws.specs.ByRows.{view_of, edit}
use Rattle.svc_machine_laws.specs.PlainMachine.{Task, Plain, Running, runs_of, running, row_of, more, one_more, cut_by, take_turn_by, tasks_after_submit, stays, staying_tasks, entry_of, entry_for, commit_tasks, IsDue}
use Rattle.svc_machine_laws.specs.PlainMachine as plain
use Rattle.svc_machine_laws.specs.MachineLaws.{Taken}
use Rattle.svc_machine_laws.specs.Reached.{BeganAtEntry, IsCounted}
use Rattle.svc_machine_laws.proofs.Every.{every_take, every_append, every_edit, every_if}
use Rattle.svc_machine_laws.proofs.Parts.{seq_commit}
use Rattle.svc_machine_laws.proofs.Runs.{turned}
use Rattle.svc_machine_laws.proofs.Steps.{runs_append, runs_take}
use Rattle.svc_machine_laws.proofs.Submits.{local_run, local_runs, asked_run, asked_runs}
use Rattle.svc_machine_laws.proofs.Wants.{LeavesCount}

-- ---- entries

-- the entry of a new task is one of the image
pub entry_assigned : (img : Image) (due : Option ℕ) (ts : List Task) (guess : ℕ) → ((e : ℕ) → due ≡ Some e → is_entry img e ≡ true) → due ≡ Some (unwrap_or due guess)
    → (is_some (slice_get ts 0) && not (is_entry img guess)) ≡ false → is_entry img (entry_for due (map entry_of ts) guess) ≡ true
entry_assigned img due [] guess enters some h = enters (unwrap_or due guess) some
entry_assigned img due (t ∷ ts) guess enters some h = not-false (is_entry img guess) h

asked_entries : {C : Type 0} (img : Image) (p : Program C) (runs : List (Running C)) (ts : List Task) (place : ℕ) (o : Option (Running C)) → AllByRecursion (BeganAtEntry img) ts → AllByRecursion (BeganAtEntry img) (take_turn_by p runs ts place o)
asked_entries img p runs ts place None h = h
asked_entries img p runs ts place (Some x) h = every_edit (BeganAtEntry img) place one_more (cut_by (p.want x.run.core) (map row_of runs) place) ts (λ t e k. k) h

pub submit_entries : {C : Type 0} (img : Image) (p : Program C) (m : Memory) (ts : List Task) (place local : ℕ) (ask : Bool) → AllByRecursion (BeganAtEntry img) ts → AllByRecursion (BeganAtEntry img) (tasks_after_submit p m ts place local ask)
submit_entries img p m ts place local false h = every_edit (BeganAtEntry img) place (more local) None ts (λ t e k. k) h
submit_entries img p m ts place local true h =
    let now : List Task = edit place (more local) None ts in
    asked_entries img p (runs_of p m now) now place (slice_get (runs_of p m now) place) (every_edit (BeganAtEntry img) place (more local) None ts (λ t e k. k) h)

pub commit_entries : {C : Type 0} (img : Image) (p : Program C) (k a e : ℕ) (ts : List Task) → AllByRecursion (BeganAtEntry img) ts
    → let s : Plain = record { commits = k; accepted = a; epoch = e; tasks = ts } in AllByRecursion (BeganAtEntry img) (commit_tasks p s ts).tasks
commit_entries img p k a e [] h = tt
commit_entries img p k a e (t ∷ ts) h = every_if (BeganAtEntry img) (stays (p.done (part p t.entry t.turns (seq p k).memory).core) (map entry_of ts)) ts h.1

-- ---- a stopped run has no task

stopped_settles : (o : Option End) (ts : List Task) → is_some (stopped_after o) ≡ true → staying_tasks o ts ≡ []
stopped_settles None ts h = absurd (both_ways false refl h)
stopped_settles (Some (end.Next e)) ts h = absurd (both_ways false refl h)
stopped_settles (Some (end.Exit code)) ts h = refl
stopped_settles (Some (end.Trap number)) ts h = refl

pub commit_idle : {C : Type 0} (p : Program C) → IsProgram p → (k a e : ℕ) (ts : List Task) (ended : End)
    → IsDue (seq p k).due ts → (is_some (seq p k).stopped ≡ true → ts ≡ [])
    → ((x : Running C) → slice_get (runs_of p (seq p k).memory ts) 0 ≡ Some x → p.done x.run.core ≡ Some ended)
    → let s : Plain = commit_tasks p (record { commits = k; accepted = a; epoch = e; tasks = ts }) ts in is_some (seq p s.commits).stopped ≡ true → s.tasks ≡ []
commit_idle p good k a e [] ended due idle done h = refl
commit_idle {C} p good k a e (t ∷ ts) ended due idle done h =
    let r : Run C = part p t.entry t.turns (seq p k).memory in
    stopped_settles (p.done r.core) ts (subst (λ q. is_some q.stopped ≡ true) (seq_commit p good k t.entry t.turns ended due (done (record { task = t; run = r }) refl)) h)

-- ---- turns are counted

pub assign_counted : (img : Image) (m : Memory) (ts : List Task) (u e entry : ℕ) → AllByRecursion IsCounted (runs_of (program img) m ts)
    → AllByRecursion IsCounted (runs_of (program img) m (ts ++ record { unit = u; epoch = e; entry = entry; turns = 0 } ∷ []))
assign_counted img m ts u e entry h =
    subst (AllByRecursion IsCounted) (sym (runs_append (program img) m ts u e entry)) (every_append IsCounted (runs_of (program img) m ts) _ h refl)

pub take_counted : (img : Image) (m : Memory) (n : ℕ) (ts : List Task) → AllByRecursion IsCounted (runs_of (program img) m ts) → AllByRecursion IsCounted (runs_of (program img) m (take n ts))
take_counted img m n ts h = subst (AllByRecursion IsCounted) (sym (runs_take (program img) m n ts)) (every_take IsCounted n (runs_of (program img) m ts) h)

-- a turn that counts so
turn_counted : (n : ℕ) (w : Want State) (look : Memory) (x : Running State) → LeavesCount n w → (turned w look x).run.core.count ≡ n
turn_counted n (Local c) look x h = h
turn_counted n (Load a value go) look x h = h (value (look a))
turn_counted n (Store a v c) look x h = h
turn_counted n (Narrow a f c) look x h = h
turn_counted n (Emit v c) look x h = h

pub submit_counted : (img : Image) (s : Plain) (place local : ℕ) (last : State) (ask : Option (Want State)) → (t : Taken (program img) s place local last ask)
    → last.count ≡ t.run.run.core.count + local → ((w : Want State) → ask ≡ Some w → LeavesCount (last.count + 1) w)
    → AllByRecursion IsCounted (running (program img) s) → AllByRecursion IsCounted (running (program img) (plain.submit (program img) s place local (is_some ask)))
submit_counted img s place local last None t counts asks h =
    let p : Program State = program img in
    subst (AllByRecursion IsCounted) (sym (local_runs p local (seq p s.commits).memory s.tasks place t.run t.at t.own))
    (every_edit IsCounted place (local_run p local) None (running p s)
    (λ x e k.
    let same : t.run ≡ x = same_Some t.run x (sym t.at ∙ e) in
    let core : locals p local x.run.core ≡ last = subst (λ (z : Running State). locals p local z.run.core ≡ last) same t.end_is in
    let at : t.run.run.core.count ≡ x.task.turns = subst (λ (z : Running State). z.run.core.count ≡ x.task.turns) (sym same) k in
    ap (λ (c : State). c.count) core ∙ (let r : last.count ≡ local + x.task.turns = omega (arith, counts, at) in r)) h)
submit_counted img s place local last (Some w) t counts asks h =
    let p : Program State = program img in
    let wants : p.want (locals p local t.run.run.core) ≡ w = ap p.want t.end_is ∙ t.ask_is w refl in
    let m : Memory = (seq p s.commits).memory in
    let all : List (Running State) = running p s in
    let rows : List Row = map row_of all in
    let look : Memory = view_of rows m place in
    subst (AllByRecursion IsCounted)
    (sym (asked_runs p local m s.tasks place t.run t.at t.own ∙ ap (λ v. edit place (asked_run p local v look) (cut_by v rows place) all) wants))
    (every_edit IsCounted place (asked_run p local w look) (cut_by w rows place) all
    (λ x e k.
    let same : t.run ≡ x = same_Some t.run x (sym t.at ∙ e) in
    let at : t.run.run.core.count ≡ x.task.turns = subst (λ (z : Running State). z.run.core.count ≡ x.task.turns) (sym same) k in
    turn_counted (last.count + 1) w look (local_run p local x) (asks w refl) ∙ (let r : last.count + 1 ≡ suc (local + x.task.turns) = omega (arith, counts, at) in r)) h)

pub commit_counted : (img : Image) → IsProgram (program img) → (k a e : ℕ) (ts : List Task) (ended : End) → IsDue (seq (program img) k).due ts
    → ((x : Running State) → slice_get (runs_of (program img) (seq (program img) k).memory ts) 0 ≡ Some x → x.run.core.done ≡ Some ended)
    → AllByRecursion IsCounted (runs_of (program img) (seq (program img) k).memory ts)
    → let s : Plain = commit_tasks (program img) (record { commits = k; accepted = a; epoch = e; tasks = ts }) ts in AllByRecursion IsCounted (running (program img) s)
commit_counted img good k a e [] ended due done h = tt
commit_counted img good k a e (t ∷ ts) ended due done h =
    let p : Program State = program img in
    let r : Run State = part p t.entry t.turns (seq p k).memory in
    subst (λ q. AllByRecursion IsCounted (runs_of p q.memory (staying_tasks r.core.done ts))) (sym (seq_commit p good k t.entry t.turns ended due (done (record { task = t; run = r }) refl)))
    (keep (stays r.core.done (map entry_of ts)) (over (wrote r.log) (seq p k).memory) h.1)
  where
    keep : (b : Bool) (m : Memory) → AllByRecursion IsCounted (runs_of (program img) m ts) → AllByRecursion IsCounted (runs_of (program img) m (cond b ts []))
    keep true m all = all
    keep false m all = tt
