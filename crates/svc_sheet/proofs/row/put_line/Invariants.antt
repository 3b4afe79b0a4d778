use Rattle.std.proofs.Common.{◌≡◌, ◌++◌, take}
use Rattle.std.specs.Prelude.{flat_map}
use Rattle.svc_sheet.specs.Row.{after_comma}
use Rattle.svc_sheet.proofs.row.put_line.Given as goal

abbrev pub invariant-loop-field : goal.invariant-loop-field
invariant-loop-field l = l.text.items ≡ l.fn.text.items ++ (l.first ++ flat_map after_comma (take l.field-index l.others))
