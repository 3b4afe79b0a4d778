-- The entry that is due, and the guess for the next task, read off the sequential run.
use Rattle.std.specs.Prelude.{ℕ, zero, suc, ◌≡◌, ◌==◌, true, false, cond, nat_lt, List, [], ◌∷◌, map, Option, Some}
use Rattle.std.specs.Prelude.{None, unwrap_or, is_some, slice_get}
use Rattle.svc_image.specs.Image.{Image, is_entry}
use Rattle.svc_core_laws.specs.Program.{Program, seq, due_after}
use Rattle.svc_core_laws.specs.declared.end.End.{End}
use Rattle.svc_core_laws.specs.Words.{program}
use Rattle.svc_machine_laws.specs.PlainMachine.{Plain, entry_of, running, run_done}

-- the successor of a task that began at this entry, if it has one and the entry is the one asked for; otherwise what
-- was known before
abbrev pub newer_successor : (began : Option ℕ) → ℕ → (successor : Option ℕ) → Option ℕ → Option ℕ
newer_successor None e successor older = older
newer_successor (Some began) e None older = older
newer_successor (Some began) e (Some successor) older = cond (began == e) (Some successor) older

-- the successor of the last of the first k tasks that began at the entry e and had one
abbrev pub successor_at : {C : Type 0} → Program C → ℕ → ℕ → Option ℕ
successor_at p zero e = None
successor_at p (suc k) e = newer_successor (seq p k).due e (seq p (suc k)).due (successor_at p k e)

-- the first of these entries above e
abbrev pub first_above : List ℕ → ℕ → Option ℕ
first_above [] e = None
first_above (x ∷ entries) e = cond (nat_lt e x) (Some x) (first_above entries e)

-- the entry after e in the table; the first follows the last
abbrev pub entry_after : List ℕ → ℕ → ℕ
entry_after entries e = unwrap_or (first_above entries e) (unwrap_or (slice_get entries 0) 0)

-- the entry of the youngest task
abbrev pub youngest : List ℕ → Option ℕ
youngest [] = None
youngest (x ∷ []) = Some x
youngest (x ∷ y ∷ entries) = youngest (y ∷ entries)

-- how the last of these has ended, if it has
abbrev pub last_end : {A : Type 0} → (A → Option End) → List A → Option End
last_end done [] = None
last_end done (x ∷ []) = done x
last_end done (x ∷ y ∷ xs) = last_end done (y ∷ xs)

-- the guess. With no task active it is the due entry. Otherwise, if the youngest active task has handed on, it is that
-- entry. Otherwise it is the successor of the last committed task that began where the youngest active one did or,
-- without one, the entry after that.
abbrev pub guess_after : (entries : List ℕ) → (due : Option ℕ) → (ℕ → Option ℕ) → (ended : Option End)
    → Option ℕ → Option ℕ
guess_after entries due successor ended None = due
guess_after entries due successor ended (Some e) =
    Some (unwrap_or (due_after ended) (unwrap_or (successor e) (entry_after entries e)))

-- the guess of a plain machine
abbrev pub guess : {C : Type 0} → Program C → List ℕ → Plain → Option ℕ
guess p entries s =
    guess_after entries (seq p s.commits).due (successor_at p s.commits) (last_end (run_done p) (running p s))
    (youngest (map entry_of s.tasks))

-- once the run has stopped there is no guess; until then there is one, and it is an entry
pub record IsGuess (img : Image) (s : Plain) : Type 0 where
  pub stopped : is_some (seq (program img) s.commits).stopped ≡ true → guess (program img) img.entries s ≡ None
  pub going : is_some (seq (program img) s.commits).stopped ≡ false → is_some (guess (program img) img.entries s) ≡ true
  pub entry : (e : ℕ) → guess (program img) img.entries s ≡ Some e → is_entry img e ≡ true
