use Rattle.svc_machine_laws.proofs.Given.{given}
use Rattle.svc_machine_laws.proofs.Guessing.{is_guess}
use Rattle.svc_machine_laws.proofs.guides.guess_is_entry.Goals as goal

pub returns : goal.returns
returns c = λ img is config s reached. is_guess img is (given img is) config s reached
