use Rattle.svc_bus_laws.proofs.LineWalks.{walk_seen}
use Rattle.svc_bus_laws.proofs.SeenLaws.{committed_seen, map_seen, view_seen, victim_seen, supplier_seen}
use Rattle.svc_bus_laws.proofs.SoundSeen.{supplied_seen}
use Rattle.svc_bus_laws.proofs.agreement.seen_law.Goals as goal

pub returns : goal.returns
returns c = record {
  committed = committed_seen;
  map = map_seen;
  view = view_seen;
  victim = victim_seen;
  supplier = supplier_seen;
  supplied = supplied_seen;
  walk = walk_seen;
}
