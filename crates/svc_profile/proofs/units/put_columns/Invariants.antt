use Rattle.std.proofs.Common.{◌≡◌, ◌++◌, take}
use Rattle.std.specs.Prelude.{flat_map}
use Rattle.svc_profile.specs.Units.{total_column}
use Rattle.svc_profile.proofs.units.put_columns.Given as goal

abbrev pub invariant-loop-total : goal.invariant-loop-total
invariant-loop-total l = l.text.items ≡ l.fn.text.items ++ flat_map (total_column l.runs) (take l.total-index l.totals)
