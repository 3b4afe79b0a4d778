use Rattle.svc_machine_laws.proofs.Given.{given}
use Rattle.svc_history_laws.proofs.Blames.{is_blamed}
use Rattle.svc_history_laws.proofs.laws.cuts_are_blamed.Goals as goal

pub returns : goal.returns
returns c = λ img is config es legal i e at. is_blamed img (given img is) config es legal i e at
