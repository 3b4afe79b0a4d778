use Rattle.std.proofs.Common.{◌≡◌, ◌++◌}
use Rattle.std.specs.Prelude.{flat_map}
use Rattle.std.specs.List.{range_with_len}
use Rattle.svc_show.specs.Cores.{register_row_at}
use Rattle.svc_show.proofs.cores.write_registers.Given as goal

abbrev pub invariant-loop-place : goal.invariant-loop-place
invariant-loop-place l = l.rows.items ≡ l.fn.rows.items ++ flat_map (register_row_at l.began l.unit.0 l.core) (range_with_len 0 l.place)
