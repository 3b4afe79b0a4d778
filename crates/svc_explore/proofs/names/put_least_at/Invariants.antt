use Rattle.std.proofs.Common.{◌≡◌, length}
use Rattle.svc_explore.specs.UnitOrders.{KeepsOrders}
use Rattle.svc_explore.proofs.names.put_least_at.Given as goal

abbrev pub invariant-loop-other : goal.invariant-loop-other
invariant-loop-other l = record {
  kept : KeepsOrders l.fn.order.items l.order.items;
  len : length l.order.items ≡ length l.fn.order.items;
}
