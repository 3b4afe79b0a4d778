-- The tasks of a history, as contracts see them.
use Rattle.svc_task_runs.specs.declared.runs.TaskRuns.{TaskRuns}
use Rattle.svc_task_runs.specs.Runs.{Runs}

-- the tasks so far, as lists
abbrev pub seen : TaskRuns → Runs
seen t = record { commits = t.commits; settled = t.settled.items; active = t.active.items }
