use Rattle.svc_machine_laws.proofs.Given.{given}
use Rattle.svc_machine_laws.proofs.Folds.{events_reached}
use Rattle.svc_machine_laws.proofs.lists.list_keeps.Goals as goal

pub returns : goal.returns
returns c = λ img is config s xs are reached. events_reached img (given img is) config s xs are reached
