use Rattle.std.proofs.Common.{refl}
use Rattle.svc_depend.proofs.Between.{next}
use Rattle.svc_depend.proofs.tracker.Tracker.next_task.Goals as goal

pub returns-clause-tracked : goal.returns-clause-tracked
returns-clause-tracked c = λ p times now h. next p times now c.args.self.now _ h refl refl refl refl refl refl refl
