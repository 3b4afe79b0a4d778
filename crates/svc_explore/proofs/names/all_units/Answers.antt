use Rattle.std.proofs.Common.{refl}
use Rattle.svc_explore.proofs.UnitOrders.{pushed}
use Rattle.svc_explore.proofs.names.all_units.Goals as goal

pub loop-unit-preserved : goal.loop-unit-preserved
loop-unit-preserved c = pushed c.loop-unit.unit c.loop-unit.order.items c.push.new.self.items _ refl c.in_ok-push.ensures.items c.loop-unit.invariant
