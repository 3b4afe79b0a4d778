use Rattle.std.proofs.Common.{Some, List, ℕ, ◌∙◌, ◌+◌, ◌++◌, ap, sym, subst}
use Rattle.std.specs.Prelude.{slice_get}
use Rattle.std.specs.Io.KnownBytes.{Appends}
use Rattle.std.proofs.lemmas.List.{append-nil}
use Rattle.svc_core_laws.specs.Words.{program}
use Rattle.svc_bus.specs.State.{bus_state}
use Rattle.svc_machine_laws.specs.PlainMachine.{running}
use Rattle.svc_report.proofs.PlainLines.{on_ok}
use Rattle.svc_version_order.specs.Order.{unit_field}
use Rattle.svc_version_order.proofs.TaskFields.{no_field, some_field}
use Rattle.svc_version_order.proofs.active.put_task_at.Goals as goal

pub returns-in-Some : goal.returns-in-Some
returns-in-Some c =
    let m = c.args.machine.now in
    let bus = bus_state m.bus in
    let word = c.args.named.word.0 in
    let unit = c.in-Some.task.unit.0 in
    let a = Some c.args.rows.now.items in
    let b = Some c.put_task.new.rows.items in
    let o = slice_get (running (program m.image) m.plain) c.args.place in
    let same =
    ap (λ (n : ℕ). unit_field n unit (bus.lines unit word)) c.number_at.ensures
    ∙ some_field bus word (m.plain.commits + c.args.place) c.in-Some.task o (sym c.in-Some.is ∙ c.task_at.ensures) in
    on_ok c.put_task.result (subst (Appends a b) same) c.put_task.ensures

pub returns-in-None : goal.returns-in-None
returns-in-None c =
    let m = c.args.machine.now in
    let bus = bus_state m.bus in
    let word = c.args.named.word.0 in
    let o = slice_get (running (program m.image) m.plain) c.args.place in
    let same = no_field bus word (m.plain.commits + c.args.place) o (sym c.in-None.is ∙ c.task_at.ensures) in
    sym (append-nil c.args.rows.now.items) ∙ ap (λ (l : List ℕ). c.args.rows.now.items ++ l) same
