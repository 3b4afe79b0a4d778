use Rattle.svc_profile.proofs.Adding.{units_add}
use Rattle.svc_profile.proofs.laws.unit_rows_add_up.Goals as goal

pub returns : goal.returns
returns c t = units_add c.args.units c.args.entries.now t c.requires.named
