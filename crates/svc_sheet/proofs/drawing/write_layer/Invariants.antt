use Rattle.std.proofs.Common.{◌≡◌, ◌++◌, take}
use Rattle.std.specs.Prelude.{flat_map}
use Rattle.svc_sheet.specs.Drawing.{mark_in}
use Rattle.svc_sheet.proofs.drawing.write_layer.Given as goal

abbrev pub invariant-loop-mark : goal.invariant-loop-mark
invariant-loop-mark l = l.text.items ≡ l.fn.text.items ++ flat_map (mark_in l.frame.sheet l.wanted) (take l.mark-index l.marks)
