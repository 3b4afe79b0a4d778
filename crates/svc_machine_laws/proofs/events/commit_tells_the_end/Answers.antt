use Rattle.svc_machine_laws.proofs.Given.{given}
use Rattle.svc_machine_laws.proofs.TaskLogs as law
use Rattle.svc_machine_laws.proofs.events.commit_tells_the_end.Goals as goal

pub returns : goal.returns
returns c = λ img is config s reached by ok. law.commit_tells_the_end img (given img is) config s reached by ok
