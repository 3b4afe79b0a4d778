use Rattle.std.proofs.Common.{◌≡◌, length}
use Rattle.svc_tokens.specs.Characters.{past}
use Rattle.svc_expressions.specs.Places.{is_decimal}
use Rattle.svc_expressions.proofs.places.skip_digits.Given as goal

abbrev pub invariant-loop-rest : goal.invariant-loop-rest
invariant-loop-rest l = past is_decimal l.rest ≡ past is_decimal l.text

abbrev pub decreases-loop-rest : goal.decreases-loop-rest
decreases-loop-rest l = length l.rest
