use Rattle.std.proofs.Common.{◌∙◌, refl}
use Rattle.svc_explore.proofs.UnitOrders.{keeps_both}
use Rattle.svc_explore.proofs.names.sort_idle.Goals as goal

pub loop-place-init : goal.loop-place-init
loop-place-init c = record { kept = λ n order. order; len = refl }

pub loop-place-preserved : goal.loop-place-preserved
loop-place-preserved c = record {
  kept = keeps_both c.args.order.now.items c.loop-place.order.items c.put_least_at.new.order.items c.loop-place.invariant.kept c.put_least_at.ensures.kept;
  len = c.put_least_at.ensures.len ∙ c.loop-place.invariant.len;
}
