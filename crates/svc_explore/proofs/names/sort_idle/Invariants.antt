use Rattle.std.proofs.Common.{◌≡◌, length}
use Rattle.svc_explore.specs.UnitOrders.{KeepsOrders}
use Rattle.svc_explore.proofs.names.sort_idle.Given as goal

abbrev pub invariant-loop-place : goal.invariant-loop-place
invariant-loop-place l = record {
  kept : KeepsOrders l.fn.order.items l.order.items;
  len : length l.order.items ≡ length l.fn.order.items;
}
