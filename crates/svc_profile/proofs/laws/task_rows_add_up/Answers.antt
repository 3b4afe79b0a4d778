use Rattle.svc_profile.proofs.Adding.{tasks_add}
use Rattle.svc_profile.proofs.laws.task_rows_add_up.Goals as goal

pub returns : goal.returns
returns c = tasks_add c.args.entries.now
