use Rattle.svc_core_laws.proofs.OneBurst as lemmas
use Rattle.svc_core_laws.proofs.laws.one_burst.Goals as goal

pub returns : goal.returns
returns c = lemmas.one_burst
