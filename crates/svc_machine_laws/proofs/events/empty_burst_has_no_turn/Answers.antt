use Rattle.svc_machine_laws.proofs.EmptyBursts.{empty_burst}
use Rattle.svc_machine_laws.proofs.events.empty_burst_has_no_turn.Goals as goal

pub returns : goal.returns
returns c = empty_burst
