use Rattle.svc_depend.specs.Walks.{IsWalked}
use Rattle.svc_depend.proofs.task.run_task.Given as goal

abbrev pub invariant-loop-turn : goal.invariant-loop-turn
invariant-loop-turn l = IsWalked l.image l.entry l._turn l.initial.memory l.initial.tracker l.core l.memory l.tracker
