use Rattle.std.proofs.Common.{◌≡◌}
use Rattle.arrayvec.specs.ArrayVec.{array_vec_len}
use Rattle.svc_schedule.specs.Orders.{around_by}
use Rattle.svc_schedule.proofs.policies.around.Given as goal

abbrev pub invariant-loop-n : goal.invariant-loop-n
invariant-loop-n l = record {
  items : l.order.items ≡ around_by l.first l.units l.n;
  len : array_vec_len l.order ≡ l.n;
}
