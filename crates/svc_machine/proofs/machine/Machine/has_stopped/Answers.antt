use Rattle.std.proofs.Common.{◌∙◌, ap}
use Rattle.std.specs.Prelude.{is_some}
use Rattle.svc_machine.proofs.Testing.{stopped_seen}
use Rattle.svc_machine.proofs.machine.Machine.has_stopped.Goals as goal

pub returns : goal.returns
returns c = rw (← c.self.view_is) (c.is_some.ensures ∙ ap is_some (stopped_seen _ c.self.invariant))
