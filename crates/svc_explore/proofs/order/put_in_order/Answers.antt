use Rattle.std.proofs.Common.{rules}
use Rattle.std.proofs.lemmas.List.Sorted.{answers_always}
use Rattle.svc_explore.specs.declared.found.Seen.{Seen}
use Rattle.svc_observations.specs.Order.{places_of}
use Rattle.svc_explore.proofs.Permuting.{ordered}
use Rattle.svc_explore.proofs.order.put_in_order.Goals as goal

pub returns-clause-order : goal.returns-clause-order
returns-clause-order c = ordered _ (c.sort_unstable_by_key.ensures.sorted (λ (s : Seen). places_of s.what) (answers_always _ _ _ (λ f a r g h. search rules)))
