use Rattle.std.proofs.Common.{subst}
use Rattle.svc_machine.specs.Value.{IsSequentialMachine}
use Rattle.svc_history_laws.specs.Board.{board}
use Rattle.svc_history.specs.Recorded.{Recorded}
use Rattle.svc_history.proofs.Recording.{sequential}
use Rattle.svc_history.proofs.recorder.Recorder.machine.Goals as goal

pub returns-clause-headline : goal.returns-clause-headline
returns-clause-headline c = subst (λ (r : Recorded). IsSequentialMachine (board r.entries).committed r.machine) c.self.view_is (sequential _ c.self.invariant.0)
