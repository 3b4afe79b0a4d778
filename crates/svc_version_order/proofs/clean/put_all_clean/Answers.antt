use Rattle.std.proofs.Common.{Some, ℕ}
use Rattle.svc_bus.specs.State.{bus_state}
use Rattle.svc_held.proofs.Ranges.{row_more}
use Rattle.svc_version_order.specs.Order.{clean_field}
use Rattle.svc_version_order.proofs.clean.put_all_clean.Goals as goal

pub loop-unit-preserved : goal.loop-unit-preserved
loop-unit-preserved c =
    let a = Some c.args.rows.now.items in
    let b = Some c.loop-unit.rows.items in
    let d = Some c.put_clean.new.rows.items in
    row_more (λ (unit : ℕ). clean_field unit ((bus_state c.args.machine.now.bus).lines unit c.args.named.word.0)) c.loop-unit.unit a b d c.loop-unit.invariant c.in_ok-put_clean.ensures
