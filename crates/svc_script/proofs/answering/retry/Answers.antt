use Rattle.std.proofs.Common.{◌≡◌, ◌∙◌, sym, true}
use Rattle.svc_history_laws.specs.declared.entry.Entry.{Entry}
use Rattle.svc_script.specs.Suppliers.{has_numbers}
use Rattle.svc_script.proofs.Answered.{step_answered}
use Rattle.svc_script.proofs.answering.retry.Goals as goal

pub returns-clause-answer : goal.returns-clause-answer
returns-clause-answer c =
    let r = c.args.recorder.now in
    let e : Entry = c.args.entry.now in
    let done = c.do_step.ensures in
    let numbers : has_numbers e.kind e ≡ true = sym c.has_numbers.ensures ∙ c.if-not-has_numbers.false in
    step_answered r e c.step_to.result c.do_step.result c.do_step.new.recorder _ c.do_step.new.kept.items c.entries-legal.ensures.legal numbers c.step_to.ensures done.step done.image
    done.config
