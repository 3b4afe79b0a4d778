use Rattle.std.proofs.Common.{◌≡◌, length}
use Rattle.svc_tokens.specs.Characters.{past_spaces}
use Rattle.svc_tokens.proofs.characters.skip_spaces.Given as goal

abbrev pub invariant-loop-rest : goal.invariant-loop-rest
invariant-loop-rest l = past_spaces l.rest ≡ past_spaces l.text

abbrev pub decreases-loop-rest : goal.decreases-loop-rest
decreases-loop-rest l = length l.rest
