use Rattle.std.proofs.Common.{◌∙◌, ap, sym}
use Rattle.svc_machine.specs.Admitted.{refusal_by}
use Rattle.svc_machine.proofs.machine.Machine.refusal.Goals as goal

pub returns-in-Ok : goal.returns-in-Ok
returns-in-Ok c = λ s at. c.refused_yet.ensures s.lines at.lines ∙ sym (ap (refusal_by c.args.self.now.image s.lines) c.in-Ok.is) ∙ c.admit.ensures.refused s at

pub returns-in-Err : goal.returns-in-Err
returns-in-Err c = λ s at. sym (ap (refusal_by c.args.self.now.image s.lines) c.in-Err.is) ∙ c.admit.ensures.refused s at
