use Rattle.std.proofs.Common.{◌≡◌, length}
use Rattle.svc_bus.specs.Opened.{AreEmpty}
use Rattle.svc_bus.proofs.bus.open_caches.Given as goal

abbrev pub invariant-loop : goal.invariant-loop
invariant-loop l = record {
  count : length l.caches.items ≡ l.counter;
  empty : AreEmpty l.caches.items l.sets l.ways;
}
