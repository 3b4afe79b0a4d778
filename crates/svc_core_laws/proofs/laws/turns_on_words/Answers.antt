use Rattle.svc_core_laws.proofs.Parts.{same_one, same_part}
use Rattle.svc_core_laws.proofs.laws.turns_on_words.Goals as goal

pub returns-clause-turn : goal.returns-clause-turn
returns-clause-turn c = same_one

pub returns-clause-part : goal.returns-clause-part
returns-clause-part c = same_part
