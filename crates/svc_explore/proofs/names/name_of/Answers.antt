use Rattle.std.proofs.Common.{◌∙◌, ap, sym, unwrap_or}
use Rattle.svc_observations.proofs.Rosters.{place_is}
use Rattle.svc_explore.proofs.names.name_of.Goals as goal

pub returns-in-Some-clause-name : goal.returns-in-Some-clause-name
returns-in-Some-clause-name c =
    ap (λ o. unwrap_or o c.args.unit.0) (sym c.in-Some.is ∙ c.find_unit.ensures.place ∙ place_is c.args.order.now c.args.unit.0)

pub returns-in-None-clause-name : goal.returns-in-None-clause-name
returns-in-None-clause-name c =
    ap (λ o. unwrap_or o c.args.unit.0) (sym c.in-None.is ∙ c.find_unit.ensures.place ∙ place_is c.args.order.now c.args.unit.0)
