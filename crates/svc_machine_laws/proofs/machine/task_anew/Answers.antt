use Rattle.svc_machine_laws.proofs.Anew as law
use Rattle.svc_machine_laws.proofs.machine.task_anew.Goals as goal

pub returns : goal.returns
returns g c = law.task_anew
