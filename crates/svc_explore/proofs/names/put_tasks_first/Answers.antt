use Rattle.svc_explore.proofs.UnitOrders.{keeps_both}
use Rattle.svc_explore.proofs.names.put_tasks_first.Goals as goal

pub loop-place-init : goal.loop-place-init
loop-place-init c = λ n order. order

pub loop-place-preserved : goal.loop-place-preserved
loop-place-preserved c = keeps_both c.args.order.now.items c.loop-place.order.items c.put_task_at.new.order.items c.loop-place.invariant c.put_task_at.ensures.kept
