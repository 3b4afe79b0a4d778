use Rattle.svc_core_laws.proofs.Going.{words_counted}
use Rattle.svc_core_laws.proofs.laws.words_are_counted.Goals as goal

pub returns : goal.returns
returns c = words_counted
