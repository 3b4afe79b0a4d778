use Rattle.svc_machine_laws.proofs.Given.{given}
use Rattle.svc_history_laws.proofs.Histories.{leads_on}
use Rattle.svc_history_laws.proofs.laws.history_leads_on.Goals as goal

pub returns : goal.returns
returns c = λ img is config es legal. leads_on img (given img is) config es legal
