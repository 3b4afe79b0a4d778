use Rattle.std.proofs.Common.{◌∙◌}
use Rattle.svc_machine.proofs.Reading.{memory_read}
use Rattle.svc_machine.proofs.machine.Machine.committed_memory.Goals as goal

pub returns : goal.returns
returns c = rw (← c.self.view_is) (c.committed_memory.ensures.value c.self.invariant.lines c.self.invariant.agrees ∙ memory_read _ c.self.invariant c.args.addr.0)
