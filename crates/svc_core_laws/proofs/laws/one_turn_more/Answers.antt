use Rattle.svc_core_laws.proofs.Parts.{plain_more, part_more}
use Rattle.svc_core_laws.proofs.laws.one_turn_more.Goals as goal

pub returns-clause-bytes : goal.returns-clause-bytes
returns-clause-bytes c = plain_more

pub returns-clause-words : goal.returns-clause-words
returns-clause-words c = part_more
