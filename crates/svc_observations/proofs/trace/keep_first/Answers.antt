use Rattle.std.proofs.Common.{rules}
use Rattle.std.proofs.lemmas.Fn.{dedup_same}
use Rattle.svc_observations.specs.Sightings.{is_same_place}
use Rattle.svc_observations.proofs.trace.keep_first.Goals as goal

pub returns : goal.returns
returns c = dedup_same _ is_same_place _ (λ x y b f' x' y' k. search rules) _ _ c.dedup_by_key.ensures.filtered
