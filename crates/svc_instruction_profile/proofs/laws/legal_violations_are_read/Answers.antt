use Rattle.svc_machine_laws.proofs.Given.{given}
use Rattle.svc_instruction_profile.proofs.FirstReads.{each_is_read}
use Rattle.svc_instruction_profile.proofs.laws.legal_violations_are_read.Goals as goal

pub returns : goal.returns
returns c = λ img is config es legal. each_is_read img (given img is) config es legal
