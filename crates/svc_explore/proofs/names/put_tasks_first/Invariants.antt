use Rattle.svc_explore.specs.UnitOrders.{KeepsOrders}
use Rattle.svc_explore.proofs.names.put_tasks_first.Given as goal

abbrev pub invariant-loop-place : goal.invariant-loop-place
invariant-loop-place l = KeepsOrders l.fn.order.items l.order.items
