use Rattle.std.proofs.Common.{subst}
use Rattle.svc_machine.specs.Value.{IsSequentialMachine}
use Rattle.svc_history_laws.specs.Board.{board}
use Rattle.svc_history.specs.Recorded.{Recorded, IsCounted}
use Rattle.svc_history.proofs.Recording.{counts, sequential}
use Rattle.svc_history.proofs.recorder.Recorder.entries.Goals as goal

pub returns-clause-headline : goal.returns-clause-headline
returns-clause-headline c = subst (λ (r : Recorded). IsSequentialMachine (board r.entries).committed r.machine) c.self.view_is (sequential _ c.self.invariant.0)

pub returns-clause-counted : goal.returns-clause-counted
returns-clause-counted c = subst IsCounted c.self.view_is (counts _ c.self.invariant.0)
