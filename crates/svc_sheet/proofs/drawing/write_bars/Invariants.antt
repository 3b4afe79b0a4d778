use Rattle.std.proofs.Common.{◌≡◌, ◌++◌, take}
use Rattle.std.specs.Prelude.{flat_map}
use Rattle.svc_sheet.specs.Drawing.{bar_text}
use Rattle.svc_sheet.proofs.drawing.write_bars.Given as goal

abbrev pub invariant-loop-bar : goal.invariant-loop-bar
invariant-loop-bar l = l.text.items ≡ l.fn.text.items ++ flat_map (bar_text l.frame.sheet) (take l.bar-index l.bars)
