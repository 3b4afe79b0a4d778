use Rattle.svc_bus_laws.proofs.BeginLaws.{begin_sound, begin_map}
use Rattle.svc_bus_laws.proofs.table.begin_law.Goals as goal

pub returns : goal.returns
returns c = λ t u sound known idle. (begin_sound t u sound known idle, begin_map t u sound known idle)
