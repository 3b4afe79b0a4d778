use Rattle.svc_bus_laws.proofs.RefusalProofs.{pinned_resides, unpinned_head}
use Rattle.svc_bus_laws.proofs.refusal.pinned_law.Goals as goal

pub returns : goal.returns
returns c = record { resides = pinned_resides; head = unpinned_head }
