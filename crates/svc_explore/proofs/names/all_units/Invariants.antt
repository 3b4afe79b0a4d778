use Rattle.svc_observations.specs.Rosters.{unit_numbers}
use Rattle.svc_renaming_laws.specs.Orders.{IsOrder}
use Rattle.svc_explore.proofs.names.all_units.Given as goal

abbrev pub invariant-loop-unit : goal.invariant-loop-unit
invariant-loop-unit l = IsOrder l.unit (unit_numbers l.order.items)
