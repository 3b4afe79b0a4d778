use Rattle.std.proofs.Common.{Some}
use Rattle.svc_machine.specs.Reads.{is_full}
use Rattle.svc_report.specs.Summary.{counts_of}
use Rattle.svc_answer.specs.Runs.{tasks_of}
use Rattle.svc_answer.proofs.Reported.{reported}
use Rattle.svc_answer.proofs.summary.print_recorded.Goals as goal

pub returns-clause-report : goal.returns-clause-report
returns-clause-report g c =
    let r = c.args.recorder.now in
    let m = c.machine-machine.ensures.machine in
    let k = c.machine-machine.ensures.headline.tasks in
    reported c.print.result r.machine.image (tasks_of r) (tasks_of r) (is_full r.machine) (Some (counts_of r.entries)) (g.O.Write.contents c.args.out.now) (g.O.Write.contents c.print.new.out)
    (rw (c.ending.ensures, m, k) at c.print.ensures.status)
    (rw (c.output.ensures, c.committed_tasks.ensures, c.ending.ensures, c.of-counts.ensures, c.entries.ensures.entries, m, k) at c.print.ensures.text)
