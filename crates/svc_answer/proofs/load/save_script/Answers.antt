use Rattle.std.proofs.Common.{◌≡◌, ◌∙◌}
use Rattle.svc_script.specs.Leading.{script_of}
use Rattle.svc_script.specs.Script.{script_text}
use Rattle.svc_answer.proofs.load.save_script.Goals as goal

pub returns-clause-saved : goal.returns-clause-saved
returns-clause-saved g c =
    let text : c.write_script.new.w.items ≡ script_text (script_of c.args.entries.now) =
    rw (c.new-text.ensures.items, c.deref.ensures.value, c.in_ok-steps.ensures.steps) at c.in_ok-write_script.ensures.ok in
    rw c.in-Some.is (rw (c.deref-2.ensures.value, text) at c.in_ok-save.ensures.saved)
