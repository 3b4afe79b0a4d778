use Rattle.std.proofs.Common.{refl}
use Rattle.svc_task_runs.specs.Runs.{after}
use Rattle.svc_task_runs.proofs.task_run.TaskRun.go_on.Goals as goal

pub returns : goal.returns
unfolding after
returns c = rw (c.last_by-self.ensures, c.fate_after-fate.ensures, c.run_on.ensures) refl
