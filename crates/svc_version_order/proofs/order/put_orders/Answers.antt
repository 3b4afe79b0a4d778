use Rattle.std.proofs.Common.{Some, ◌∙◌, ap, subst}
use Rattle.std.specs.Io.KnownBytes.{Appends}
use Rattle.svc_base.specs.declared.config.Config.{Config}
use Rattle.svc_core_laws.specs.Turns.{data_words}
use Rattle.svc_core_laws.specs.Words.{program}
use Rattle.svc_bus.specs.State.{bus_state}
use Rattle.svc_machine_laws.specs.PlainMachine.{running}
use Rattle.svc_report.proofs.PlainLines.{on_ok}
use Rattle.svc_held.proofs.Listed.{own_held}
use Rattle.svc_version_order.specs.Order.{order_rows}
use Rattle.svc_version_order.proofs.OrdersHeld.{orders_held}
use Rattle.svc_version_order.proofs.order.put_orders.Goals as goal

pub put_all-requires-clause-own : goal.put_all-requires-clause-own
put_all-requires-clause-own c =
    let m = c.args.machine.now in
    own_held (bus_state m.bus) (data_words m.image) c.requires.held.0 c.args.named.now c.requires.held.1

pub returns : goal.returns
returns c =
    let m = c.args.machine.now in
    let bus = bus_state m.bus in
    let runs = running (program m.image) m.plain in
    let words = data_words m.image in
    let same =
    orders_held bus words c.requires.held.0 c.args.named.now c.requires.held.1 c.config.result.units m.plain.commits runs
    ∙ ap (λ (config : Config). order_rows config.units words bus m.plain.commits runs) c.config.ensures.config in
    on_ok c.put_all.result (subst (Appends (Some c.args.rows.now.items) (Some c.put_all.new.rows.items)) same) c.put_all.ensures
