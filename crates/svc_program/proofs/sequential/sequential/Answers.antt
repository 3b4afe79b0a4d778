use Rattle.svc_answer.proofs.Answering.{run_in_order}
use Rattle.svc_program.proofs.sequential.sequential.Goals as goal

pub returns : goal.returns
returns g c =
    run_in_order g.O.Write.contents c.args.tasks (g.F.Files.held c.args.files.now)
    c.args.out.now c.run_in_order.new.out c.run_in_order.result c.in_ok-image.image
    c.in_ok-image.ensures.image c.run_in_order.ensures.report c.run_in_order.ensures.silent
