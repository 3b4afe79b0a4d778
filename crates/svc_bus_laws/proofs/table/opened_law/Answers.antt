use Rattle.svc_bus_laws.proofs.OpenedLaws.{opened_law}
use Rattle.svc_bus_laws.proofs.table.opened_law.Goals as goal

pub returns : goal.returns
returns c = opened_law
