use Rattle.svc_machine_laws.proofs.Given.{given}
use Rattle.svc_machine_laws.proofs.Blames.{blamed}
use Rattle.svc_machine_laws.proofs.events.cut_is_blamed.Goals as goal

pub returns : goal.returns
returns c = λ img is config s reached x are ok cut h. blamed img (given img is) config s reached x are ok cut h
