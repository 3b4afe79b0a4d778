use Rattle.svc_machine_laws.proofs.Given.{given}
use Rattle.svc_machine_laws.proofs.TaskLogs as law
use Rattle.svc_machine_laws.proofs.events.logs_follow.Goals as goal

pub returns : goal.returns
returns c = λ img is config s reached x are ok. law.logs_follow img (given img is) config s reached x are ok
