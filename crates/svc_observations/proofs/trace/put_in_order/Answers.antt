use Rattle.std.proofs.Common.{rules}
use Rattle.std.proofs.lemmas.List.Sorted.{answers_always}
use Rattle.svc_observations.specs.declared.trace.Sighting.{Sighting}
use Rattle.svc_observations.specs.Sightings.{sorting_key}
use Rattle.svc_observations.proofs.trace.put_in_order.Goals as goal

pub returns-clause-order : goal.returns-clause-order
returns-clause-order c = c.sort_unstable_by_key.ensures.sorted (λ (s : Sighting). sorting_key s) (answers_always _ _ _ (λ f a r g h. search rules))
