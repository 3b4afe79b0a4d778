use Rattle.std.proofs.Common.{◌≡◌, ◌≤◌, ◌+◌, ◌++◌, length, take}
use Rattle.svc_vcl.specs.Planned.{copies_in}
use Rattle.svc_vcl.proofs.write.list_copies.Given as goal

abbrev pub invariant-loop-held : goal.invariant-loop-held
invariant-loop-held l = record {
  size : length l.stale.items ≤ length l.initial.stale.items + l.held-index;
  listed : l.stale.items ≡ l.initial.stale.items ++ copies_in (take l.held-index l.committed) l.writer.0;
}
