use Rattle.svc_bus_laws.proofs.Maps.{walk_finds, walk_stops, walk_ends}
use Rattle.svc_bus_laws.proofs.MapViews.{walk_is}
use Rattle.svc_bus_laws.proofs.map.walk_law.Goals as goal

pub returns : goal.returns
returns c = record { finds = walk_finds; stops = walk_stops; ends = walk_ends; whole = walk_is }
