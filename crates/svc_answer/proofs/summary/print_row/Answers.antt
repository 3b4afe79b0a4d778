use Rattle.svc_report.specs.Summary.{counts_of}
use Rattle.svc_report.specs.Table.{summary_row}
use Rattle.svc_machine.specs.Reads.{is_full}
use Rattle.svc_answer.specs.Runs.{ending_after, tasks_of}
use Rattle.svc_answer.proofs.Reported.{appended_and_kept}
use Rattle.svc_answer.proofs.summary.print_row.Goals as goal

pub returns-clause-report : goal.returns-clause-report
returns-clause-report g c =
    let r = c.args.recorder.now in
    let m = c.machine-machine.ensures.machine in
    let k = c.machine-machine.ensures.headline.tasks in
    let row = summary_row c.args.row (tasks_of r) (ending_after r.machine.image (tasks_of r) (is_full r.machine)) (counts_of r.entries) in
    record {
      text = appended_and_kept (g.O.Write.contents c.args.out.now) (g.O.Write.contents c.write_summary_row.new.w) (g.O.Write.contents c.flush.new.out) row
          (rw (c.committed_tasks.ensures, c.ending-ending.ensures, c.of-counts.ensures, c.entries.ensures.entries, m, k) at c.in_ok-write_summary_row.ensures.ok)
          c.in_ok-flush.ensures.kept;
      status = rw (c.ending-ending.ensures, m, k) at c.exit_status.ensures;
    }
