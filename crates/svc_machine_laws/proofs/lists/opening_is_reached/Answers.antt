use Rattle.svc_machine_laws.proofs.Given.{given}
use Rattle.svc_machine_laws.proofs.Folds.{opened_reached}
use Rattle.svc_machine_laws.proofs.lists.opening_is_reached.Goals as goal

pub returns : goal.returns
returns c = λ img is config first. opened_reached img (given img is) config first
