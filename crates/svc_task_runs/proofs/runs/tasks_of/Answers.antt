use Rattle.std.proofs.Common.{◌++◌, ◌∙◌, ap, length, subst, sym}
use Rattle.std.specs.List.{AllByRecursion}
use Rattle.svc_task_runs.specs.Bounds.{IsLight}
use Rattle.svc_task_runs.specs.Runs.{Runs}
use Rattle.svc_task_runs.specs.Seen.{seen}
use Rattle.svc_task_runs.proofs.Fewness.{few_tasks, light_tasks}
use Rattle.svc_task_runs.proofs.runs.tasks_of.Goals as goal

pub returns-clause-tasks : goal.returns-clause-tasks
returns-clause-tasks c = c.in_ok-tasks.ensures ∙ ap (λ (r : Runs). r.settled ++ r.active) c.in_ok-runs.ensures.runs

pub returns-clause-few : goal.returns-clause-few
returns-clause-few c = rw c.in_ok-tasks.ensures (few_tasks (length c.args.entries.now) (seen c.in_ok-runs.runs) c.requires.few c.in_ok-runs.ensures.few)

pub returns-clause-light : goal.returns-clause-light
returns-clause-light c =
    subst (AllByRecursion (IsLight 1000000)) (sym c.in_ok-tasks.ensures) (light_tasks (length c.args.entries.now) (seen c.in_ok-runs.runs) c.requires.few c.in_ok-runs.ensures.few)
