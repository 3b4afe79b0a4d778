use Rattle.svc_core_laws.proofs.Memory.{load-is, store-is, store_elsewhere}
use Rattle.svc_core_laws.proofs.laws.bytes_of_a_word.Goals as goal

pub returns-clause-load : goal.returns-clause-load
returns-clause-load c = load-is

pub returns-clause-store : goal.returns-clause-store
returns-clause-store c = store-is

pub returns-clause-elsewhere : goal.returns-clause-elsewhere
returns-clause-elsewhere c = store_elsewhere
