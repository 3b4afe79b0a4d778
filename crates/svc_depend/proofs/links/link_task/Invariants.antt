use Rattle.svc_depend.specs.Walks.{IsWalked}
use Rattle.svc_depend.proofs.Linked.{AreLinked}
use Rattle.svc_depend.proofs.links.link_task.Given as goal

abbrev pub invariant-loop-turn : goal.invariant-loop-turn
invariant-loop-turn l = record {
  walked : IsWalked l.image l.entry l._turn l.initial.memory l.initial.tracker l.core l.memory l.tracker;
  linked : AreLinked l.image l.entry l._turn l.initial.memory l.initial.tracker l.links.items;
}
