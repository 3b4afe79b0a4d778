use Rattle.svc_answer.specs.Requests.{SavesAnyTrace}
use Rattle.svc_program.proofs.Finding.{saved_by}
use Rattle.svc_program.proofs.find.save_witness.Goals as goal

pub returns-clause-saved : goal.returns-clause-saved
returns-clause-saved g c =
    rw (c.in-Some.is)
    (saved_by c.save_trace.result c.args.image.now c.args.explored c.in-Some.seen.now.what c.in_ok-recorder.recorder.entries c.entries.result.now
    (SavesAnyTrace (g.F.Files.held c.save_trace.new.files) c.args.trace) c.entries.ensures.entries c.in_ok-recorder.ensures c.save_trace.ensures.saved)
