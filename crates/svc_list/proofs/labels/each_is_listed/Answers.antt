use Rattle.svc_list.proofs.Listed.{each_listed}
use Rattle.svc_list.proofs.labels.each_is_listed.Goals as goal

pub returns : goal.returns
returns c = each_listed
