use Rattle.svc_core_laws.proofs.Ends.{is_program}
use Rattle.svc_core_laws.proofs.Sequential.{plain_ends}
use Rattle.svc_core_laws.proofs.laws.every_task_ends.Goals as goal

pub returns-clause-words : goal.returns-clause-words
returns-clause-words c = is_program

pub returns-clause-bytes : goal.returns-clause-bytes
returns-clause-bytes c = plain_ends
