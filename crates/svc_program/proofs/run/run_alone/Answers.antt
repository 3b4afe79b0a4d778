use Rattle.svc_answer.proofs.Answering.{run_answered}
use Rattle.svc_program.proofs.run.run_alone.Goals as goal

pub returns : goal.returns
returns g c =
    run_answered g.O.Write.contents c.args.run (g.F.Files.held c.args.files.now) (g.F.Files.held c.report_run.new.files)
    c.args.out.now c.report_run.new.out c.report_run.result c.in_ok-image.image c.in_ok-recorder.recorder
    c.in_ok-image.ensures.image c.in_ok-recorder.ensures.run c.in_ok-recorder.ensures.goes
    c.report_run.ensures.saved c.report_run.ensures.report c.report_run.ensures.silent c.report_run.ensures.alone
