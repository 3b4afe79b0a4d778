use Rattle.std.proofs.Common.{◌≤◌}
use Rattle.svc_asm.proofs.found.first_word.Given as goal

-- no more characters are told than there is room for
abbrev pub invariant-loop-c : goal.invariant-loop-c
invariant-loop-c l = l.length ≤ 24
