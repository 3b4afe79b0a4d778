use Rattle.svc_machine_laws.proofs.Given.{given}
use Rattle.svc_history_laws.proofs.Readers.{is_caused}
use Rattle.svc_history_laws.proofs.laws.violations_have_causes.Goals as goal

pub returns : goal.returns
returns c = λ img is config es legal i e at cause. is_caused img (given img is) config es legal i e at cause
