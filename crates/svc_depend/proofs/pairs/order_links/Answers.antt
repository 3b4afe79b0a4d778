use Rattle.std.proofs.Common.{rules}
use Rattle.std.proofs.lemmas.List.Sorted.{answers_always}
use Rattle.svc_depend.specs.declared.links.Link.{Link}
use Rattle.svc_depend.proofs.InOrder.{ordered}
use Rattle.svc_depend.proofs.pairs.order_links.Goals as goal

pub returns-clause-order : goal.returns-clause-order
returns-clause-order c = ordered _ (c.sort_unstable_by_key.ensures.sorted (λ (l : Link). (l.on, l.word)) (answers_always _ _ _ (λ f a r g h. search rules)))
