use Rattle.std.proofs.Common.{◌∙◌, refl}
use Rattle.svc_explore.proofs.UnitOrders.{keeps_both}
use Rattle.svc_explore.proofs.names.put_least_at.Goals as goal

pub loop-other-init : goal.loop-other-init
loop-other-init c = record { kept = λ n order. order; len = refl }

pub loop-other-preserved : goal.loop-other-preserved
loop-other-preserved c = record {
  kept = keeps_both c.args.order.now.items c.loop-other.order.items c.sort_two.new.order.items c.loop-other.invariant.kept c.sort_two.ensures.kept;
  len = c.sort_two.ensures.len ∙ c.loop-other.invariant.len;
}
