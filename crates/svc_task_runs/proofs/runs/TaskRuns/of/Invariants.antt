use Rattle.std.proofs.Common.{◌≡◌, drop}
use Rattle.svc_task_runs.specs.Bounds.{AreFew}
use Rattle.svc_task_runs.specs.Runs.{runs_from, runs_of}
use Rattle.svc_task_runs.specs.Seen.{seen}
use Rattle.svc_task_runs.proofs.runs.TaskRuns.of.Given as goal

abbrev pub invariant-loop-index : goal.invariant-loop-index
invariant-loop-index l =
    (runs_from (seen l.runs) l.index (drop l.index l.entries) ≡ runs_of l.entries) × AreFew l.index (seen l.runs)
