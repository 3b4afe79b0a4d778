use Rattle.svc_export.specs.Changes.{unit_variables}
use Rattle.svc_export.proofs.Texts.{one_more_unit}
use Rattle.svc_export.proofs.vcd.put_units.Goals as goal

pub loop-unit-preserved : goal.loop-unit-preserved
loop-unit-preserved c =
    one_more_unit unit_variables c.loop-unit.unit c.from.result c.args.text.now.items c.loop-unit.text.items c.put_unit_variables.new.text.items c.from.ensures
    c.loop-unit.invariant c.in_ok-put_unit_variables.ensures
