use Rattle.svc_explore_laws.proofs.FutureSteps.{future_step}
use Rattle.svc_explore_laws.proofs.FutureMoves.{moves_alike, only_alike}
use Rattle.svc_explore_laws.proofs.Keys.{keys_tell}
use Rattle.svc_explore_laws.proofs.Sights.{same_sights}
use Rattle.svc_explore_laws.proofs.futures.future_law.Goals as goal

pub returns : goal.returns
returns c = record {
  steps = λ img is config s t. future_step img is config s t;
  moves = λ img is config most s t reached also same room unit. moves_alike img config most s t same room unit;
  only = λ img is config most s t reached also same room unit. only_alike img config most s t same room unit;
  keys = keys_tell;
  sights = same_sights;
}
