use Rattle.std.proofs.Common.{Some, List, Option, Bool, ℕ, ◌∙◌, subst, sym, ap}
use Rattle.std.specs.Io.KnownBytes.{Appends}
use Rattle.svc_report.proofs.PlainLines.{on_ok, then_appends}
use Rattle.std.specs.Prelude.{◌++◌}
use Rattle.svc_machine_laws.specs.Events.{Cancel, Commit}
use Rattle.svc_moves.specs.Moves.{assign_row, event_row, replace_rows, submit_row}
use Rattle.svc_moves.proofs.moves.put_unit.Goals as goal

pub returns : goal.returns
returns c = λ s at.
    let m = c.args.machine.now in
    let unit = c.args.unit.0 in
    let a = Some c.args.rows.now.items in
    let b = Some c.put_assign.new.rows.items in
    let d = Some c.put_submit.new.rows.items in
    let e = Some c.put_replaces.new.rows.items in
    let f = Some c.put_cancel.new.rows.items in
    let h = Some c.put_commit.new.rows.items in
    let assign = assign_row m.image m.config s unit in
    let submit = submit_row m.image m.config s unit in
    let replaces = replace_rows m.image m.config s unit in
    let cancel = event_row m.image m.config s unit (Cancel unit) in
    let commit = event_row m.image m.config s unit (Commit unit) in
    on_ok c.put_commit.result (λ k.
    then_appends a b h assign (submit ++ (replaces ++ (cancel ++ commit))) (c.in_ok-put_assign.ensures s at) (
    then_appends b d h submit (replaces ++ (cancel ++ commit)) (c.in_ok-put_submit.ensures s at) (
    then_appends d e h replaces (cancel ++ commit) (c.in_ok-put_replaces.ensures s at) (
    then_appends e f h cancel commit (c.in_ok-put_cancel.ensures s at) k)))) (c.put_commit.ensures s at)
