use Rattle.std.proofs.Common.{List, IsPermutation, subst, sym}
use Rattle.svc_observations.specs.declared.trace.Sighting.{Sighting}
use Rattle.svc_observations.specs.Sightings.{AreSightings}
use Rattle.svc_observations.proofs.Firsts.{are_sightings}
use Rattle.svc_observations.proofs.trace.sightings.Goals as goal

pub returns-clause-sightings : goal.returns-clause-sightings
returns-clause-sightings c =
    let img = c.args.image in
    let config = c.args.config in
    let es = c.args.entries.now in
    let xs = c.put_in_order.new.found.items in
    let same = subst (λ (l : List Sighting). IsPermutation l xs) c.in_ok-found.ensures.all c.put_in_order.ensures.same in
    subst (AreSightings img config es) (sym c.keep_first.ensures) (are_sightings img config es xs same c.put_in_order.ensures.order)
