use Rattle.std.proofs.Common.{◌≡◌, drop}
use Rattle.svc_tokens.specs.Characters.{value_on}
use Rattle.svc_tokens.proofs.characters.long_of.Given as goal

abbrev pub invariant-loop-c : goal.invariant-loop-c
invariant-loop-c l = value_on l.base l.value (drop l.c-index l.digits) ≡ value_on l.base 0 l.digits
