use Rattle.svc_machine_laws.proofs.Given.{given}
use Rattle.svc_machine_laws.proofs.Folds.{whole_events_are}
use Rattle.svc_machine_laws.proofs.lists.whole_machine_anew.Goals as goal

pub returns : goal.returns
returns c = λ img is config s xs are reached. whole_events_are img (given img is) config s xs are reached
