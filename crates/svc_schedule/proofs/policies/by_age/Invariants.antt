use Rattle.std.proofs.Common.{◌≡◌, ◌≤◌, map}
use Rattle.arrayvec.specs.ArrayVec.{array_vec_len}
use Rattle.svc_machine.specs.Reads.{lease_of}
use Rattle.svc_schedule.specs.Orders.{by_rank, rank_of}
use Rattle.svc_schedule.proofs.policies.by_age.Given as goal

abbrev pub invariant-loop-number : goal.invariant-loop-number
invariant-loop-number l = record {
  items : l.order.items ≡ by_rank (λ unit. rank_of l.first (lease_of l.recorder.machine unit)) l.number;
  ranks : l.ranks.items ≡ map (λ u. rank_of l.first (lease_of l.recorder.machine u.0)) l.order.items;
  len : array_vec_len l.order ≡ l.number;
  ranks_len : array_vec_len l.ranks ≡ l.number;
  few : l.units ≤ 16;
}
