use Rattle.std.proofs.Common.{◌≡◌, ◌++◌}
use Rattle.std.specs.Prelude.{flat_map}
use Rattle.std.specs.List.{range_with_len}
use Rattle.svc_draw.specs.Legend.{lane_text}
use Rattle.svc_draw.proofs.legend.write_lanes.Given as goal

abbrev pub invariant-loop-number : goal.invariant-loop-number
invariant-loop-number l = l.text.items ≡ l.fn.text.items ++ flat_map (lane_text l.frame.sheet) (range_with_len 0 l.number)
