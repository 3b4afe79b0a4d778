use Rattle.svc_machine_laws.proofs.Given.{given}
use Rattle.svc_machine_laws.proofs.Folds.{reached_is}
use Rattle.svc_machine_laws.proofs.lists.reached_is_sequential.Goals as goal

pub returns : goal.returns
returns c = λ img is config s reached. reached_is img (given img is) config s reached
