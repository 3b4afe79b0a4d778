use Rattle.svc_machine_laws.proofs.Given.{given}
use Rattle.svc_history_laws.proofs.Leases.{has_event}
use Rattle.svc_history_laws.proofs.laws.entry_has_event.Goals as goal

pub returns : goal.returns
returns c = λ img is config s e legal. has_event img (given img is) config s e legal
