use Rattle.std.proofs.lemmas.List.{take_all}
use Rattle.svc_sheet.proofs.Rows.{line_ended}
use Rattle.svc_sheet.proofs.row.put_line.Goals as goal

pub returns : goal.returns
returns c =
    line_ended c.args.first.now c.args.others.now _ c.args.text.now.items c.loop-field.text.items c.put_parts-2.new.text.items
    (take_all c.loop-field.field-index c.args.others.now c.loop-field-test.false) c.loop-field.invariant c.in_ok-put_parts-2.ensures
