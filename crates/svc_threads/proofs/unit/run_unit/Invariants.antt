use Rattle.std.proofs.Common.{◌≡◌}
use Rattle.std.specs.Prelude.{All}
use Rattle.svc_threads.specs.Ports.{IsOf}
use Rattle.svc_threads.proofs.unit.run_unit.Given as goal

abbrev pub invariant-loop : goal.invariant-loop
invariant-loop g l = record { board : l.pass.board ≡ g.P.Port.board_of l.port; own : All (IsOf l.unit) l.slips.items }
