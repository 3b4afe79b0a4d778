use Rattle.std.proofs.Common.{◌∙◌, ap, sym, length, unwrap_or}
use Rattle.svc_observations.proofs.Rosters.{place_is}
use Rattle.svc_observations.proofs.sight.place_of.Goals as goal

pub returns-in-Some-clause-place : goal.returns-in-Some-clause-place
returns-in-Some-clause-place c =
    ap (λ o. unwrap_or o (length c.args.units.now)) (sym c.in-Some.is ∙ c.find_unit.ensures.place ∙ place_is c.args.units.now c.args.unit.0)

pub returns-in-None-clause-place : goal.returns-in-None-clause-place
returns-in-None-clause-place c =
    ap (λ o. unwrap_or o (length c.args.units.now)) (sym c.in-None.is ∙ c.find_unit.ensures.place ∙ place_is c.args.units.now c.args.unit.0)
