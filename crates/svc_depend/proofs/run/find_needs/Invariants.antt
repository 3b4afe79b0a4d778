use Rattle.svc_depend.specs.Walks.{IsFollowed}
use Rattle.svc_depend.proofs.run.find_needs.Given as goal

abbrev pub invariant-loop-task : goal.invariant-loop-task
invariant-loop-task l = IsFollowed l.image l._task l.memory.items l.due l.stopped l.tracker l.tasks.items l.totals
