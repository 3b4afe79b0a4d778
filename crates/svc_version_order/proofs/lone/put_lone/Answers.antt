use Rattle.std.proofs.Common.{Some, List, ℕ, ◌∙◌, ◌++◌, ap, option_map, sym, subst}
use Rattle.std.specs.Io.KnownBytes.{Appends}
use Rattle.std.proofs.lemmas.List.{append-nil}
use Rattle.svc_core_laws.specs.Turns.{data_words}
use Rattle.svc_core_laws.specs.Words.{program}
use Rattle.svc_bus.specs.Calls.{line_shown}
use Rattle.svc_bus.specs.State.{bus_state}
use Rattle.svc_machine_laws.specs.PlainMachine.{running}
use Rattle.svc_report.proofs.PlainLines.{on_ok}
use Rattle.svc_version_order.specs.Order.{order_row}
use Rattle.svc_version_order.proofs.LoneLines.{lone_row, no_row}
use Rattle.svc_version_order.proofs.lone.put_lone.Goals as goal

pub returns-in-Some : goal.returns-in-Some
returns-in-Some c =
    let m = c.args.machine.now in
    let bus = bus_state m.bus in
    let runs = running (program m.image) m.plain in
    let at = c.config-standing.ensures.standing in
    let caches = at.1.lines.caches ∙ (c.config-standing.ensures.reached at.0 at.1).lines.caches in
    let line = sym c.line_of.ensures ∙ ap (option_map line_shown) c.in-Some.is in
    let same =
    lone_row bus at.0.lines (data_words m.image) c.args.named c.args.unit at.1.lines c.requires.own c.requires.alone (line_shown (c.in-Some.bits, c.in-Some._value)) line m.plain.commits runs
    ∙ ap (λ (n : ℕ). order_row n bus m.plain.commits runs c.args.named.word.0) caches in
    on_ok c.put_row.result (subst (Appends (Some c.args.rows.now.items) (Some c.put_row.new.rows.items)) same) c.put_row.ensures

pub returns-in-None : goal.returns-in-None
returns-in-None c =
    let m = c.args.machine.now in
    let bus = bus_state m.bus in
    let runs = running (program m.image) m.plain in
    let at = c.config-standing.ensures.standing in
    let none = sym c.line_of.ensures ∙ ap (option_map line_shown) c.in-None.is in
    let same = no_row bus at.0.lines (data_words m.image) c.args.named c.args.unit at.1.lines c.requires.own c.requires.alone none m.config.units m.plain.commits runs in
    sym (append-nil c.args.rows.now.items) ∙ ap (λ (l : List ℕ). c.args.rows.now.items ++ l) same
