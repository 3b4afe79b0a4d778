use Rattle.svc_machine_laws.proofs.Given.{given}
use Rattle.svc_machine_laws.proofs.Numbers.{all_counted}
use Rattle.svc_machine_laws.proofs.events.tasks_are_counted.Goals as goal

pub returns : goal.returns
returns c = λ img is config s x are ok. all_counted img (given img is) config s x are ok
