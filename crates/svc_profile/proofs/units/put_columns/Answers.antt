use Rattle.std.proofs.Common.{Some}
use Rattle.svc_text.proofs.Gathered.{one_more_row}
use Rattle.svc_profile.specs.declared.totals.Group.TheVariants as group
use Rattle.svc_profile.specs.declared.totals.Measure.TheVariants as measure
use Rattle.svc_profile.specs.Profile.{total_of}
use Rattle.svc_profile.specs.Units.{total_column}
use Rattle.svc_profile.proofs.units.put_columns.Goals as goal

pub loop-total-preserved : goal.loop-total-preserved
loop-total-preserved c =
    let a = Some c.args.text.now.items in
    let b = Some c.loop-total.text.items in
    let d = Some c.put_column.new.text.items in
    one_more_row (total_column c.args.runs.now) c.args.totals.now c.loop-total.total-index (total_of measure.Tasks group.Begun) a b d
    c.loop-total-test.true c.loop-total.invariant c.in_ok-put_column.ensures
