use Rattle.std.proofs.Common.{◌≡◌, ◌++◌, drop, replicate}
use Rattle.svc_shapes.specs.declared.sheet.TheConstants.{LEFT}
use Rattle.svc_sheet.specs.Values.{words_from}
use Rattle.svc_sheet.proofs.values.write_values.Given as goal

abbrev pub invariant-loop-mark : goal.invariant-loop-mark
invariant-loop-mark l =
    l.text.items ++ words_from l.frame.sheet l.edges (drop l.mark-index l.marks)
    ≡ l.fn.text.items ++ words_from l.frame.sheet (replicate 256 LEFT) l.marks
