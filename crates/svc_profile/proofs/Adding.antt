-- The sums over each table are those of the profile.
use Rattle.std.proofs.Common.{ℕ, ◌<◌, ◌≡◌, ◌∙◌, List, length}
use Rattle.std.specs.List.{AllByRecursion, range_with_len, sum_by}
use Rattle.svc_history_laws.specs.declared.entry.Entry.{Entry}
use Rattle.svc_task_runs.specs.declared.task_run.TaskRun.{TaskRun}
use Rattle.svc_profile.specs.declared.totals.Total.{Total}
use Rattle.svc_profile.specs.Profile.{part_of, total}
use Rattle.svc_task_runs.specs.Runs.{tasks_of}
use Rattle.svc_profile.specs.Tasks.{begun_at, tasks_in_order}
use Rattle.svc_profile.specs.Units.{tasks_on}
use Rattle.svc_task_runs.proofs.Begun.{all_before}
use Rattle.svc_profile.proofs.Placed.{all_under}
use Rattle.svc_profile.proofs.Buckets.{sum_by_number, sum_flat}

pub tasks_add : (es : List Entry) (t : Total) → total (tasks_in_order es) t ≡ total (tasks_of es) t
tasks_add es t =
    sum_flat (part_of t) (begun_at (tasks_of es)) (range_with_len 0 (length es))
    ∙ sum_by_number (λ (r : TaskRun). r.first) (part_of t) (tasks_of es) (length es) (all_before es)

pub units_add : (units : ℕ) (es : List Entry) (t : Total) → AllByRecursion (λ e. e.unit.0 < units) es
    → sum_by (λ unit. total (tasks_on (tasks_of es) unit) t) (range_with_len 0 units) ≡ total (tasks_of es) t
units_add units es t named = sum_by_number (λ (r : TaskRun). r.unit.0) (part_of t) (tasks_of es) units (all_under units es named)
