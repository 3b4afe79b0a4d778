use Rattle.std.proofs.Common.{Some, ◌∙◌, Option, subst}
use Rattle.std.specs.Io.KnownBytes.{Appends}
use Rattle.svc_core_laws.specs.Turns.{data_words}
use Rattle.svc_bus.specs.State.{bus_state}
use Rattle.svc_bus_laws.specs.BusLine.{BusLine}
use Rattle.svc_report.proofs.PlainLines.{on_ok}
use Rattle.svc_held.proofs.Listed.{own_line}
use Rattle.svc_version_order.specs.Order.{clean_field}
use Rattle.svc_version_order.proofs.clean.put_clean.Goals as goal

pub returns : goal.returns
returns c =
    let m = c.args.machine.now in
    let unit = c.args.unit.0 in
    let a = Some c.args.rows.now.items in
    let b = Some c.put_if_clean.new.rows.items in
    let same = c.line_of_named.ensures ∙ own_line (bus_state m.bus) (data_words m.image) c.args.named c.requires.own unit in
    on_ok c.put_if_clean.result (subst (λ (line : Option BusLine). Appends a b (clean_field unit line)) same) c.put_if_clean.ensures
