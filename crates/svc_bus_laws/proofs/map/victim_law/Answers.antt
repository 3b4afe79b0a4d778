use Rattle.svc_bus_laws.proofs.MapViews.{victim_is, is_the_victim, no_victim}
use Rattle.svc_bus_laws.proofs.map.victim_law.Goals as goal

pub returns : goal.returns
returns c = record { found = victim_is; only = is_the_victim; none = no_victim }
