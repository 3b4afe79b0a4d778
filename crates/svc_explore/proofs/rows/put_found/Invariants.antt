use Rattle.std.proofs.Common.{◌≡◌, ◌++◌, take}
use Rattle.std.specs.Prelude.{flat_map}
use Rattle.svc_explore.specs.Rows.{row_of}
use Rattle.svc_explore.proofs.rows.put_found.Given as goal

abbrev pub invariant-loop-seen : goal.invariant-loop-seen
invariant-loop-seen l = l.text.items ≡ l.fn.text.items ++ flat_map row_of (take l.seen-index l.found)
