use Rattle.svc_explore.proofs.Scheduled.{scheduled_plays}
use Rattle.svc_explore.proofs.runs.scheduled_runs_play.Goals as goal

pub returns : goal.returns
returns g c = λ img is config most old new r run. scheduled_plays g.P.Policy.gives img is config most old new r run
