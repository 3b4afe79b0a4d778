use Rattle.svc_machine.proofs.Reading.{stopped_read}
use Rattle.svc_machine.proofs.machine.Machine.stopped.Goals as goal

pub returns : goal.returns
returns c = rw (← c.self.view_is) (stopped_read _ c.self.invariant)
