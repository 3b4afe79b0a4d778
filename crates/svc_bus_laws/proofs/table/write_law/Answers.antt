use Rattle.svc_bus_laws.proofs.WriteLaws.{write_law}
use Rattle.svc_bus_laws.proofs.LineWalks.{line_walk}
use Rattle.svc_bus_laws.proofs.table.write_law.Goals as goal

pub returns : goal.returns
returns c = record { write = write_law; walk = line_walk }
