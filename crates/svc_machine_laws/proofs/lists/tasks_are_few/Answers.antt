use Rattle.svc_machine_laws.proofs.Room.{tasks_few}
use Rattle.svc_machine_laws.proofs.lists.tasks_are_few.Goals as goal

pub returns : goal.returns
returns c = tasks_few
