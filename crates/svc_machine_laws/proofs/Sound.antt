-- What holds of the plain machine after every event: its head is the due task.
use Rattle.std.proofs.Common.{ℕ, zero, suc, ◌≡◌, ◌==◌, Bool, true, false, cond, List, [], ◌∷◌, ◌++◌, map, take, Option, Some, None, refl, sym, ap, ◌∙◌, subst, slice_get, is_some, unwrap_or}
use Rattle.std.proofs.Common.{◌⊎◌, inl, inr, ⊎_elim}
use borrow.Author.Tests.{both_ways, eqb-true}
use Rattle.svc_core_laws.specs.declared.end.End.{End}
use Rattle.svc_core_laws.specs.declared.end.End.TheVariants as end
use Rattle.svc_core_laws.specs.Program.{Memory, Program, part, task, Seq, seq, next_task, due_after, stopped_after, IsProgram}
use Rattle.svc_bus_laws.specs.ByRows.{edit}
use Rattle.svc_machine_laws.specs.PlainMachine.{Task, Running, IsDue, runs_of, staying_tasks, entry_of, entry_for, more, one_more, take_turn_by, tasks_after_submit, cut_by, row_of}
use Rattle.svc_machine_laws.proofs.Parts.{seq_commit}

-- the run goes on, or has stopped
abbrev GoesOn : Seq → Type 0
GoesOn q = (is_some q.due ≡ true) ⊎ (is_some q.stopped ≡ true)

ended_goes_on : (o : Option End) → is_some o ≡ true → (is_some (due_after o) ≡ true) ⊎ (is_some (stopped_after o) ≡ true)
ended_goes_on (Some (end.Next e)) h = inl refl
ended_goes_on (Some (end.Exit code)) h = inr refl
ended_goes_on (Some (end.Trap number)) h = inr refl
ended_goes_on None h = absurd (both_ways false refl h)

pub goes_on : {C : Type 0} (p : Program C) → IsProgram p → (k : ℕ) → GoesOn (seq p k)
goes_on p good zero = inl refl
goes_on p good (suc k) = next (seq p k).due (goes_on p good k)
  where
    next : (o : Option ℕ) → GoesOn (seq p k) → GoesOn (next_task p (seq p k) o)
    next None h = h
    next (Some e) h = ended_goes_on (p.done (task p e (seq p k).memory).core) (good.ends e (seq p k).memory)

-- a run that has not stopped has a due task
pub due_some : (q : Seq) (guess : ℕ) → GoesOn q → is_some q.stopped ≡ false → q.due ≡ Some (unwrap_or q.due guess)
due_some q guess h off = ⊎_elim (λ (e : is_some q.due ≡ true). is q.due e) (λ (e : is_some q.stopped ≡ true). absurd (both_ways (is_some q.stopped) off e)) h
  where
    is : (o : Option ℕ) → is_some o ≡ true → o ≡ Some (unwrap_or o guess)
    is (Some e) k = refl
    is None k = absurd (both_ways false refl k)

pub due_assign : (due : Option ℕ) (ts : List Task) (unit epoch guess : ℕ) → due ≡ Some (unwrap_or due guess) → IsDue due ts
    → IsDue due (ts ++ record { unit = unit; epoch = epoch; entry = entry_for due (map entry_of ts) guess; turns = 0 } ∷ [])
due_assign due [] unit epoch guess e h = e
due_assign due (t ∷ ts) unit epoch guess e h = h

pub due_take : (due : Option ℕ) (n : ℕ) (ts : List Task) → IsDue due ts → IsDue due (take n ts)
due_take due zero ts h = tt
due_take due (suc n) [] h = tt
due_take due (suc n) (t ∷ ts) h = h

due_edit : (due : Option ℕ) (place : ℕ) (f : Task → Task) (c : Option ℕ) (ts : List Task) → ((t : Task) → t.entry ≡ (f t).entry) → IsDue due ts → IsDue due (edit place f c ts)
due_edit due place f c [] same h = tt
due_edit due zero f c (t ∷ ts) same h = h ∙ ap Some (same t)
due_edit due (suc place) f c (t ∷ ts) same h = h

pub due_asked : {C : Type 0} (p : Program C) (due : Option ℕ) (runs : List (Running C)) (ts : List Task) (place : ℕ) (o : Option (Running C)) → IsDue due ts → IsDue due (take_turn_by p runs ts place o)
due_asked p due runs ts place None h = h
due_asked p due runs ts place (Some x) h = due_edit due place one_more (cut_by (p.want x.run.core) (map row_of runs) place) ts (λ t. refl) h

pub due_submit : {C : Type 0} (p : Program C) (due : Option ℕ) (m : Memory) (ts : List Task) (place local : ℕ) (ask : Bool) → IsDue due ts → IsDue due (tasks_after_submit p m ts place local ask)
due_submit p due m ts place local false h = due_edit due place (more local) None ts (λ t. refl) h
due_submit p due m ts place local true h =
    let now : List Task = edit place (more local) None ts in
    due_asked p due (runs_of p m now) now place (slice_get (runs_of p m now) place) (due_edit due place (more local) None ts (λ t. refl) h)

-- what stays at a commit begins at the entry with which the head ended
due_settled : (ended : Option End) (ts : List Task) → IsDue (due_after ended) (staying_tasks ended ts)
due_settled None ts = tt
due_settled (Some (end.Exit code)) ts = tt
due_settled (Some (end.Trap number)) ts = tt
due_settled (Some (end.Next e)) [] = tt
due_settled (Some (end.Next e)) (t ∷ ts) = split (t.entry == e) refl
  where
    split : (b : Bool) → (t.entry == e) ≡ b → IsDue (Some e) (cond b (t ∷ ts) [])
    split true k = ap Some (sym (eqb-true t.entry e k))
    split false k = tt

pub due_commit : {C : Type 0} (p : Program C) → IsProgram p → (k e n : ℕ) (ts : List Task) (end : End)
    → (seq p k).due ≡ Some e → p.done (part p e n (seq p k).memory).core ≡ Some end
    → IsDue (seq p (suc k)).due (staying_tasks (p.done (part p e n (seq p k).memory).core) ts)
due_commit p good k e n ts end due ended =
    subst (λ q. IsDue q.due (staying_tasks (p.done (part p e n (seq p k).memory).core) ts)) (sym (seq_commit p good k e n end due ended))
    (due_settled (p.done (part p e n (seq p k).memory).core) ts)
