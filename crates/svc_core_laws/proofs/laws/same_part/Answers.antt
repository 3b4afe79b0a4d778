use Rattle.svc_core_laws.proofs.Central.{part_agrees}
use Rattle.svc_core_laws.proofs.laws.same_part.Goals as goal

pub returns : goal.returns
returns g c = part_agrees
