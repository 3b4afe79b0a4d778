use Rattle.std.specs.Io.KnownBytes.{append_known}
use Rattle.svc_task_runs.proofs.Nobody.{nobody}
use Rattle.svc_text.proofs.Gathered.{one_more_row, row_passes}
use Rattle.svc_profile.specs.Tasks.{task_row}
use Rattle.svc_profile.proofs.tasks.write_rows.Goals as goal

pub loop-run-preserved : goal.loop-run-preserved
loop-run-preserved g c =
    let now = g.W.Write.contents in
    let a = append_known (now c.args.w.now) c.args.text.now.items in
    let b = append_known (now c.loop-run.w) c.loop-run.text.items in
    let d = append_known (now c.write_if_long.new.w) c.write_if_long.new.text.items in
    one_more_row task_row c.args.runs.now c.loop-run.run-index nobody a b d c.loop-run-test.true c.loop-run.invariant
    (row_passes (now c.loop-run.w) (now c.write_if_long.new.w) c.loop-run.text.items c.put_task.new.text.items c.write_if_long.new.text.items _
    c.in_ok-put_task.ensures c.in_ok-write_if_long.ensures)
