use Rattle.svc_record_limit.proofs.Limits.{passes_readable}
use Rattle.svc_record_limit.proofs.limited.Limited.new.Goals as goal

pub returns : goal.returns
returns g c = rw c.new.ensures (passes_readable (g.R.Read.remaining c.args.reader))
