use Rattle.svc_depend_laws.proofs.Nearness.{nearest_of_all}
use Rattle.svc_depend_laws.proofs.laws.least_distance_is_nearest.Goals as goal

pub returns : goal.returns
returns c = nearest_of_all
