use Rattle.std.proofs.Common.{◌≡◌, ◌++◌}
use Rattle.std.specs.Prelude.{flat_map}
use Rattle.svc_profile.specs.Met.{met_row}
use Rattle.svc_profile.proofs.met.put_rows.Given as goal

abbrev pub invariant-loop-between : goal.invariant-loop-between
invariant-loop-between l = l.text.items ++ flat_map (met_row l.meets) l.between-iterator ≡ l.fn.text.items ++ flat_map (met_row l.meets) l.met.entries
