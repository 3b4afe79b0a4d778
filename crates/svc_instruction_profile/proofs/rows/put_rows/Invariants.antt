use Rattle.std.proofs.Common.{◌≡◌, ◌++◌}
use Rattle.std.specs.Prelude.{flat_map}
use Rattle.svc_instruction_profile.specs.Rows.{cost_row}
use Rattle.svc_instruction_profile.proofs.rows.put_rows.Given as goal

abbrev pub invariant-loop-address : goal.invariant-loop-address
invariant-loop-address l = l.text.items ++ flat_map cost_row l.address-iterator ≡ l.fn.text.items ++ flat_map cost_row l.rows.entries
