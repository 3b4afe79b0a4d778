use Rattle.std.proofs.Common.{◌≡◌}
use Rattle.svc_program_tests.proofs.threads.boards.reads_are_sound.Given as goal

abbrev pub invariant-loop : goal.invariant-loop
invariant-loop g l = l.pass.board ≡ l.bus
