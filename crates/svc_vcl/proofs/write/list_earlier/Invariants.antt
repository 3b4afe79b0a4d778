use Rattle.std.proofs.Common.{◌≡◌, ◌≤◌, ◌+◌, ◌++◌, length, take}
use Rattle.svc_vcl.specs.Planned.{passed_in}
use Rattle.svc_vcl.proofs.write.list_earlier.Given as goal

abbrev pub invariant-loop-slot : goal.invariant-loop-slot
invariant-loop-slot l = record {
  size : length l.stale.items ≤ length l.initial.stale.items + l.slot-index;
  listed : l.stale.items ≡ l.initial.stale.items ++ passed_in (take l.slot-index l.earlier);
}
