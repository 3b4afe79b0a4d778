use Rattle.std.proofs.Common.{◌≡◌}
use Rattle.svc_threads.proofs.run.fn.run_all.scope.Given as goal

abbrev pub invariant-loop-unit : goal.invariant-loop-unit
invariant-loop-unit g l = l.reader.board ≡ g.P.Port.board_of l.port.now
