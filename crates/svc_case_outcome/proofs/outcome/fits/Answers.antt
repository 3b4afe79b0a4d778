use Rattle.svc_case_outcome.proofs.Fitting.{begins_as_wanted, is_as_wanted}
use Rattle.svc_case_outcome.proofs.outcome.fits.Goals as goal

pub returns-in-Some : goal.returns-in-Some
returns-in-Some c = begins_as_wanted c.args.found.now c.args.wanted.now c.in-Some.front c.starts_with.result c.in-Some.ensures.cases c.starts_with.ensures.value

pub returns-in-None : goal.returns-in-None
returns-in-None c = is_as_wanted c.args.found.now c.args.wanted.now c.eq.result c.in-None.ensures.cases c.eq.ensures
