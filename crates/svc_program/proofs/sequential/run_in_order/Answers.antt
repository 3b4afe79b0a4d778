use Rattle.std.proofs.Common.{None, false}
use Rattle.svc_plain.specs.Tasks.{tasks_run}
use Rattle.svc_answer.proofs.Reported.{reported}
use Rattle.svc_program.proofs.sequential.run_in_order.Goals as goal

pub returns-clause-report : goal.returns-clause-report
returns-clause-report g c =
    let ran = c.in_ok-outcome.ensures in
    rw (← c.from.ensures) (reported c.print.result c.args.image.now c.from.result (tasks_run c.args.image.now c.from.result) false None (g.O.Write.contents c.args.out.now) (g.O.Write.contents c.print.new.out)
    (rw ran.ending at c.print.ensures.status) (rw (c.deref.ensures.value, ran.output, ran.tasks, ran.ending) at c.print.ensures.text))
