use Rattle.svc_bus_laws.proofs.MapViews.{committed_view, nearest_view}
use Rattle.svc_bus_laws.proofs.map.view_law.Goals as goal

pub returns : goal.returns
returns c = record { committed = committed_view; nearest = nearest_view }
