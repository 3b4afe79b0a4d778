use Rattle.svc_core_laws.proofs.Sequential.{due_enters}
use Rattle.svc_core_laws.proofs.laws.due_is_entry.Goals as goal

pub returns : goal.returns
returns c = λ img is k entry h. due_enters img is.start_entry k entry h
