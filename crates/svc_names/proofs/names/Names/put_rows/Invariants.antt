use Rattle.std.proofs.Common.{◌≡◌, ◌≤◌, ◌++◌}
use Rattle.svc_names.specs.Rows.{with_names}
use Rattle.svc_names.proofs.Walked.{left_at}
use Rattle.svc_names.proofs.names.Names.put_rows.Given as goal

abbrev pub invariant-loop-at : goal.invariant-loop-at
invariant-loop-at l = record {
  early : l.from ≤ l.at;
  so_far : l.text.items ++ left_at l.self.list.items l.rows l.told l.from l.at ≡ l.fn.text.items ++ with_names l.self.list.items l.rows l.told;
}
