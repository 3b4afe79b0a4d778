use Rattle.std.proofs.Common.{◌≡◌, ◌-◌, ◌++◌}
use Rattle.std.specs.Prelude.{flat_map}
use Rattle.std.specs.List.{range_with_len}
use Rattle.svc_draw.specs.Legend.{number_at}
use Rattle.svc_draw.proofs.legend.write_axis.Given as goal

abbrev pub invariant-loop-place : goal.invariant-loop-place
invariant-loop-place l = l.text.items ≡ l.fn.text.items ++ flat_map (number_at l.frame.sheet) (range_with_len l.frame.sheet.window.from (l.place - l.frame.sheet.window.from))
