use Rattle.svc_machine_laws.proofs.Given.{given}
use Rattle.svc_history_laws.proofs.Histories.{in_order}
use Rattle.svc_history_laws.proofs.laws.numbers_are_in_order.Goals as goal

pub returns : goal.returns
returns c = λ img is config es legal. in_order img (given img is) config es legal
