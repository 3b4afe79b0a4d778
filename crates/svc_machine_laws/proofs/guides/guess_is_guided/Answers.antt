use Rattle.svc_machine_laws.proofs.Followed.{guess_is}
use Rattle.svc_machine_laws.proofs.guides.guess_is_guided.Goals as goal

pub returns : goal.returns
returns c = λ img config s reached. guess_is img s.plain reached.entries
