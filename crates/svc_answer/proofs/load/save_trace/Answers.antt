use Rattle.std.proofs.Common.{◌≡◌}
use Rattle.svc_report.specs.Trace.{text_of}
use Rattle.svc_answer.proofs.load.save_trace.Goals as goal

pub returns-clause-saved : goal.returns-clause-saved
returns-clause-saved g c =
    let text : c.write_trace.new.w.items ≡ text_of c.args.entries.now = rw c.new-text.ensures.items at c.in_ok-write_trace.ensures.ok in
    rw c.in-Some.is (rw (c.deref.ensures.value, text) at c.in_ok-save.ensures.saved)
