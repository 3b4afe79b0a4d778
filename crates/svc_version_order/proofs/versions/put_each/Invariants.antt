use Rattle.std.proofs.Common.{◌≡◌, ◌++◌, take}
use Rattle.svc_version_order.specs.Fields.{committed_fields}
use Rattle.svc_version_order.proofs.versions.put_each.Given as goal

abbrev pub invariant-loop-unit : goal.invariant-loop-unit
invariant-loop-unit l = l.rows.items ≡ l.fn.rows.items ++ committed_fields (take l.unit-index l.units)
