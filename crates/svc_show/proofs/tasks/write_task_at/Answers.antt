use Rattle.std.proofs.Common.{Some, List, ℕ, ◌∙◌, ◌+◌, ◌++◌, ap, sym, subst}
use Rattle.std.specs.Prelude.{slice_get}
use Rattle.std.specs.Io.KnownBytes.{Appends}
use Rattle.std.proofs.lemmas.List.{append-nil}
use Rattle.svc_core_laws.specs.Words.{program}
use Rattle.svc_machine_laws.specs.PlainMachine.{running}
use Rattle.svc_report.proofs.PlainLines.{on_ok}
use Rattle.svc_show.proofs.TaskRows.{no_rows, some_rows}
use Rattle.svc_show.proofs.tasks.write_task_at.Goals as goal

pub returns-in-Some : goal.returns-in-Some
returns-in-Some c =
    let m = c.args.machine.now in
    let a = Some c.args.rows.now.items in
    let b = Some c.write_rows.new.rows.items in
    let o = slice_get (running (program m.image) m.plain) c.args.place in
    let same = some_rows c.args.detail m.image (m.plain.commits + c.args.place) c.in-Some.task o (sym c.in-Some.is ∙ c.task_at.ensures) in
    on_ok c.write_rows.result (subst (Appends a b) same) c.write_rows.ensures

pub returns-in-None : goal.returns-in-None
returns-in-None c =
    let m = c.args.machine.now in
    let o = slice_get (running (program m.image) m.plain) c.args.place in
    let same = no_rows c.args.detail m.image (m.plain.commits + c.args.place) o (sym c.in-None.is ∙ c.task_at.ensures) in
    sym (append-nil c.args.rows.now.items) ∙ ap (λ (l : List ℕ). c.args.rows.now.items ++ l) same
