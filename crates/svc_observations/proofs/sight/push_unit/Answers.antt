use Rattle.std.proofs.Common.{◌∙◌, ◌∷◌, [], ap}
use Rattle.svc_observations.specs.Rosters.{unit_numbers}
use Rattle.svc_observations.proofs.Rosters.{units_append}
use Rattle.svc_observations.proofs.sight.push_unit.Goals as goal

pub returns : goal.returns
returns c = ap unit_numbers c.in_ok-push.ensures.items ∙ units_append c.args.units.now.items (c.args.unit ∷ [])
