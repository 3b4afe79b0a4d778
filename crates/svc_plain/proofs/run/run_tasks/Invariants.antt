use Rattle.svc_plain.specs.Tasks.{IsRun}
use Rattle.svc_plain.proofs.run.run_tasks.Given as goal

abbrev pub invariant-loop-task : goal.invariant-loop-task
invariant-loop-task l = IsRun l.image l._task l.tasks l.memory.items l.output.items l.due l.stopped
