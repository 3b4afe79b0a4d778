use Rattle.svc_depend_laws.proofs.Stopped.{ends_for_good}
use Rattle.svc_depend_laws.proofs.laws.nearest_stays.Goals as goal

pub returns : goal.returns
returns g c = ends_for_good
