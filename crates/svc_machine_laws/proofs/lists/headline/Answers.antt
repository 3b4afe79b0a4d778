use Rattle.svc_machine_laws.proofs.Given.{given}
use Rattle.svc_machine_laws.proofs.Folds.{headline_is}
use Rattle.svc_machine_laws.proofs.lists.headline.Goals as goal

pub returns : goal.returns
returns c = λ img is config first xs are. headline_is img (given img is) config first xs are
