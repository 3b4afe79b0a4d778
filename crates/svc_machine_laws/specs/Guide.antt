-- What a sequencer keeps of the run, and what it does with it.
use Rattle.std.specs.Prelude.{ℕ, ◌==◌, cond, List, [], ◌∷◌, ◌++◌, map, take, drop, Option, Some, None, slice_get}
use Rattle.svc_core_laws.specs.declared.end.End.{End}
use Rattle.svc_core_laws.specs.Program.{Program, seq, due_after}
use Rattle.svc_machine_laws.specs.PlainMachine.{Plain, entry_of, entry_for, cuts_next}
use Rattle.svc_machine_laws.specs.Guess.{newer_successor, successor_at, guess_after, youngest}

-- the entries in rising order, the due entry, the last known successor of each entry, and the entries of the active
-- tasks, oldest first
pub record Guide : Type 0 where
  pub entries : List ℕ
  pub due : Option ℕ
  pub successors : List (Option ℕ)
  pub active : List ℕ

-- what the plain machine says of it
abbrev pub guide_of : {C : Type 0} → Program C → List ℕ → Plain → Guide
guide_of p entries s =
    record {
      entries = entries;
      due = (seq p s.commits).due;
      successors = map (successor_at p s.commits) entries;
      active = map entry_of s.tasks;
    }

-- the successor that the table has for an entry
abbrev pub successor_in : List ℕ → List (Option ℕ) → ℕ → Option ℕ
successor_in [] successors e = None
successor_in (x ∷ entries) [] e = None
successor_in (x ∷ entries) (o ∷ successors) e = cond (x == e) o (successor_in entries successors e)

-- the guess for the next task
abbrev pub guess_of : (ended : Option End) → Guide → Option ℕ
guess_of ended g = guess_after g.entries g.due (successor_in g.entries g.successors) ended (youngest g.active)

-- before any event
abbrev pub guide_opened : (entries : List ℕ) → (first : ℕ) → Guide
guide_opened entries first = record {
  entries = entries;
  due = Some first;
  successors = map (λ e. None) entries;
  active = [];
}

-- one more task, as the youngest: at the due entry if no task is active, otherwise at the guess
abbrev pub guide_assigned : (guess : ℕ) → Guide → Guide
guide_assigned guess g = record g { active = g.active ++ entry_for g.due g.active guess ∷ [] }

-- the first n tasks stay
abbrev pub guide_cut : (n : ℕ) → Guide → Guide
guide_cut n g = record g { active = take n g.active }

-- the table with this successor, if any, of the entry at which a task began
abbrev pub with_successor : List ℕ → (began successor : Option ℕ) → List (Option ℕ) → List (Option ℕ)
with_successor [] began successor successors = successors
with_successor (x ∷ entries) began successor [] = []
with_successor (x ∷ entries) began successor (o ∷ successors) =
    newer_successor began x successor o ∷ with_successor entries began successor successors

-- the oldest task is committed, with this end
abbrev pub guide_committed : End → Guide → Guide
guide_committed ended g = record g {
  due = due_after (Some ended);
  successors = with_successor g.entries (slice_get g.active 0) (due_after (Some ended)) g.successors;
  active = drop 1 g.active;
}

-- if the commit says so, the tasks after the oldest are cut first
abbrev pub guide_settled : End → Guide → Guide
guide_settled ended g = cond (cuts_next ended (drop 1 g.active)) (guide_cut 1 g) g
