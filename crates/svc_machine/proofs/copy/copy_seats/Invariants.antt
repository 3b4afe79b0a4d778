use Rattle.std.proofs.Common.{◌≡◌, ◌≤◌, take, vec_capacity}
use Rattle.svc_machine.proofs.copy.copy_seats.Given as goal

abbrev pub invariant-loop-seat : goal.invariant-loop-seat
invariant-loop-seat l = record {
  items : l.seats.items ≡ take l.seat-index l.others;
  room : vec_capacity l.fn.seats ≤ vec_capacity l.seats;
}
