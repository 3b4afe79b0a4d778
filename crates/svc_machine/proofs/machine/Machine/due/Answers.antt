use Rattle.std.proofs.Common.{◌∙◌}
use Rattle.svc_machine.proofs.Reading.{due_read}
use Rattle.svc_machine.proofs.machine.Machine.due.Goals as goal

pub returns : goal.returns
returns c = rw (← c.self.view_is) (c.due.ensures ∙ due_read _ c.self.invariant)
