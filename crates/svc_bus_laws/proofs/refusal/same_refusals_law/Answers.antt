use Rattle.svc_bus_laws.proofs.RefusalProofs.{same_cache, same_full, same_resident, same_pinned}
use Rattle.svc_bus_laws.proofs.refusal.same_refusals_law.Goals as goal

pub returns : goal.returns
returns c = record { cache = same_cache; full = same_full; resident = same_resident; pinned = same_pinned }
