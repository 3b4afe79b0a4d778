use Rattle.svc_core_laws.proofs.PlainParts.{same_plain}
use Rattle.svc_core_laws.proofs.laws.same_plain_part.Goals as goal

pub returns : goal.returns
returns c = same_plain
