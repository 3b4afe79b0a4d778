use Rattle.std.proofs.Common.{rules}
use Rattle.std.proofs.lemmas.List.Sorted.{answers_always}
use Rattle.svc_asm.specs.declared.labels.Label.{Label}
use Rattle.svc_names.proofs.making.put_in_order.Goals as goal

pub returns-clause-order : goal.returns-clause-order
returns-clause-order c = c.sort_unstable_by_key.ensures.sorted (λ (l : Label). (l.address, l.name)) (answers_always _ _ _ (λ f a r g h. search rules))
