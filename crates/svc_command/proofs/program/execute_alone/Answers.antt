use Rattle.svc_command.proofs.Statuses.{two_at_most}
use Rattle.svc_command.proofs.program.execute_alone.Goals as goal

pub returns-in-Ok-clause-status : goal.returns-in-Ok-clause-status
returns-in-Ok-clause-status g c =
    let done = (c.in-Ok.ensures {u = tt}).done in
    two_at_most done.0 (g.F.Files.held c.args.files.now) (g.F.Files.held c.answer_alone.new.files) (g.O.Write.contents c.args.out.now) (g.O.Write.contents c.answer_alone.new.out) c.in-Ok.status done.2
