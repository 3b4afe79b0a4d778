use Rattle.std.proofs.Common.{List, Some, ◌++◌, codes, subst}
use Rattle.std.specs.Prelude.{flat_map, length}
use Rattle.std.specs.Io.KnownBytes.{Appends}
use Rattle.svc_report.specs.declared.counts.Counts.{Counts}
use Rattle.svc_report.specs.Summary.{counts_of}
use Rattle.svc_report.proofs.PlainLines.{on_ok, then_appends}
use Rattle.svc_task_runs.specs.declared.task_run.TaskRun.{TaskRun}
use Rattle.svc_task_runs.specs.Runs.{tasks_of}
use Rattle.svc_profile.specs.declared.totals.Total.{Total}
use Rattle.svc_profile.specs.Profile.{count_row, served_row, suppliers_told, total_row, totals_told}
use Rattle.svc_profile.proofs.profile.put_profile.Goals as goal

pub returns : goal.returns
returns c =
    let es = c.args.entries.now in
    let a = Some c.args.text.now.items in
    let b = Some c.put_count.new.text.items in
    let d = Some c.put_totals.new.text.items in
    let e = Some c.put_served.new.text.items in
    let f = Some c.put_count-2.new.text.items in
    let events = count_row (codes "events") (length es) in
    let totals = flat_map (total_row (tasks_of es)) totals_told in
    let served = flat_map (served_row (counts_of es)) suppliers_told in
    let replaced = count_row (codes "replaced") (counts_of es).replace in
    let told : Appends b d totals =
    subst (λ (rs : List TaskRun). Appends b d (flat_map (total_row rs) totals_told)) c.requires.tasks
    (subst (λ (ts : List Total). Appends b d (flat_map (total_row c.args.runs.now) ts)) c.totals_told.ensures c.in_ok-put_totals.ensures) in
    let by : Appends d e served =
    subst (λ (k : Counts). Appends d e (flat_map (served_row k) suppliers_told)) c.of-counts.ensures c.in_ok-put_served.ensures in
    on_ok c.put_count-2.result (λ h.
    then_appends a b f events (totals ++ (served ++ replaced)) c.in_ok-put_count.ensures (
    then_appends b d f totals (served ++ replaced) told (
    then_appends d e f served replaced by (subst (λ (k : Counts). Appends e f (count_row (codes "replaced") k.replace)) c.of-counts.ensures h)))) c.put_count-2.ensures
