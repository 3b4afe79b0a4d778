use Rattle.std.proofs.Common.{Some}
use Rattle.svc_held.proofs.Ranges.{row_more}
use Rattle.svc_moves.specs.Moves.{unit_moves}
use Rattle.svc_moves.proofs.moves.put_units.Goals as goal

pub loop-unit-preserved : goal.loop-unit-preserved
loop-unit-preserved c = λ s at.
    let m = c.args.machine.now in
    let a = Some c.args.rows.now.items in
    let b = Some c.loop-unit.rows.items in
    let d = Some c.put_unit.new.rows.items in
    row_more (unit_moves m.image m.config s) c.loop-unit.unit a b d (c.loop-unit.invariant s at) (c.in_ok-put_unit.ensures s at)
