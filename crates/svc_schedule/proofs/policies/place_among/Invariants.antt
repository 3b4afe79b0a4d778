use Rattle.std.proofs.Common.{◌≡◌, ◌+◌, drop}
use Rattle.svc_schedule.specs.Orders.{place_among}
use Rattle.svc_schedule.proofs.policies.place_among.Given as goal

abbrev pub invariant-loop-other : goal.invariant-loop-other
invariant-loop-other l = record {
  place : l.place ≡ l.other-index;
  rest : l.place + place_among (drop l.other-index l.ranks) l.rank ≡ place_among l.ranks l.rank;
}
