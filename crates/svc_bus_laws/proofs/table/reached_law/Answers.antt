use Rattle.svc_bus_laws.proofs.OpenedLaws.{in_memory}
use Rattle.svc_bus_laws.proofs.ReachedProofs.{reached_sound}
use Rattle.svc_bus_laws.proofs.table.reached_law.Goals as goal

pub returns : goal.returns
returns c = record { sound = reached_sound; in_memory = in_memory }
