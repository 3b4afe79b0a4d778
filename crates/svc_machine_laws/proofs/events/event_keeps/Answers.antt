use Rattle.svc_machine_laws.proofs.Given.{given}
use Rattle.svc_machine_laws.proofs.Standings.{event_reached}
use Rattle.svc_machine_laws.proofs.events.event_keeps.Goals as goal

pub returns : goal.returns
returns c = λ img is config s reached x are. event_reached img (given img is) config s reached x are
