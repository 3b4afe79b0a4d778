use Rattle.svc_core_laws.proofs.Ends.{plain_stays, stays}
use Rattle.svc_core_laws.proofs.laws.ended_task_stays.Goals as goal

pub returns-clause-bytes : goal.returns-clause-bytes
returns-clause-bytes c = plain_stays

pub returns-clause-words : goal.returns-clause-words
returns-clause-words c = stays
