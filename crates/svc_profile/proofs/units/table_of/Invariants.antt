use Rattle.std.proofs.Common.{◌≡◌, ◌++◌}
use Rattle.svc_profile.specs.Units.{unit_header, unit_rows}
use Rattle.svc_profile.proofs.units.table_of.Given as goal

abbrev pub invariant-loop-unit : goal.invariant-loop-unit
invariant-loop-unit l = l.text.items ≡ unit_header ++ unit_rows l.unit l.runs
