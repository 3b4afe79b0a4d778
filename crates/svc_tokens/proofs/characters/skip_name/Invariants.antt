use Rattle.std.proofs.Common.{◌≡◌, length}
use Rattle.svc_tokens.specs.Characters.{past, is_name}
use Rattle.svc_tokens.proofs.characters.skip_name.Given as goal

abbrev pub invariant-loop-rest : goal.invariant-loop-rest
invariant-loop-rest l = past is_name l.rest ≡ past is_name l.text

abbrev pub decreases-loop-rest : goal.decreases-loop-rest
decreases-loop-rest l = length l.rest
