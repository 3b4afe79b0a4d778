-- How large the numbers of a history's tasks become.
use Rattle.std.specs.Prelude.{ℕ, ◌+◌, ◌*◌, ◌≤◌, length}
use Rattle.std.specs.List.{AllByRecursion}
use Rattle.svc_task_runs.specs.declared.task_run.TaskRun.{TaskRun}
use Rattle.svc_task_runs.specs.Runs.{Runs}

-- the turns of a task, its loads and its stores
abbrev pub work : TaskRun → ℕ
work r = r.turns + (r.loads + r.stores)

-- no more than this many entries add up to
abbrev pub IsLight : (n : ℕ) → TaskRun → Type 0
IsLight n r = work r ≤ 514 * n

-- the tasks of this many entries
pub record AreFew (n : ℕ) (s : Runs) : Type 0 where
  pub commits : s.commits ≤ n
  pub settled : AllByRecursion (IsLight n) s.settled
  pub active : AllByRecursion (IsLight n) s.active
  pub count : length s.settled + length s.active ≤ n
