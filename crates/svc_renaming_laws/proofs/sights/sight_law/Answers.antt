use Rattle.svc_renaming_laws.proofs.MoveNames.{moves_renamed, event_shows, plays_renamed, same_sights}
use Rattle.svc_renaming_laws.proofs.sights.sight_law.Goals as goal

pub returns : goal.returns
returns c = record {
  moves = λ img is config r s known reached most. moves_renamed img is config r known most s reached;
  observations = event_shows;
  plays = λ img is config r s known reached most es. plays_renamed img is config r known most es s reached;
  sights = same_sights;
}
