use Rattle.svc_bus_laws.proofs.PurgeLaws.{purge_law}
use Rattle.svc_bus_laws.proofs.table.purge_law.Goals as goal

pub returns : goal.returns
returns c = purge_law
