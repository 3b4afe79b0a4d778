-- Entries that load or store for only one task.
use Rattle.std.specs.Prelude.{◌≡◌, ℕ, suc, true, List, [], ◌∷◌, count_by, ⊤}
use Rattle.svc_history_laws.specs.declared.entry.Entry.{Entry}
use Rattle.svc_task_runs.specs.Runs.{Runs, is_load, is_store, is_submit_of, no_runs, step}

-- an entry that loads or stores is a submit of just one of the active tasks
pub record RunsOneTask (e : Entry) (s : Runs) : Type 0 where
  pub loads : is_load e.reply ≡ true → count_by (is_submit_of e) s.active ≡ 1
  pub stores : is_store e.reply ≡ true → count_by (is_submit_of e) s.active ≡ 1

-- each of the entries from this index on
unfoldable pub EachRunsOne : Runs → (at : ℕ) → List Entry → Type 0
EachRunsOne s at [] = ⊤
EachRunsOne s at (e ∷ es) = RunsOneTask e s × EachRunsOne (step at e s) (suc at) es

-- each entry of a history
abbrev pub EachIsOfOneTask : List Entry → Type 0
EachIsOfOneTask es = EachRunsOne no_runs 0 es
