use Rattle.std.proofs.Common.{◌∙◌}
use Rattle.svc_machine.proofs.Reading.{output_read}
use Rattle.svc_machine.proofs.machine.Machine.output.Goals as goal

pub returns : goal.returns
returns c = rw (← c.self.view_is) (c.deref.ensures.value ∙ output_read _ c.self.invariant)
