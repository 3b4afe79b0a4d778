use Rattle.svc_bus_laws.proofs.ReadLaws.{read_sound, read_map}
use Rattle.svc_bus_laws.proofs.table.read_law.Goals as goal

pub returns : goal.returns
returns c = λ t p a sound within known. (read_sound t p a sound within known, read_map t p a sound within known)
