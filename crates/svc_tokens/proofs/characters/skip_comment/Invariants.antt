use Rattle.std.proofs.Common.{◌≡◌, ◌≤◌, length}
use Rattle.svc_tokens.specs.declared.characters.Blank.TheVariants as blank
use Rattle.svc_tokens.specs.Characters.{past_blanks}
use Rattle.svc_tokens.proofs.characters.skip_comment.Given as goal

abbrev pub invariant-loop-rest : goal.invariant-loop-rest
invariant-loop-rest l = (past_blanks l.blank l.rest ≡ past_blanks blank.Opening l.text) × (length l.rest ≤ length l.text)

abbrev pub decreases-loop-rest : goal.decreases-loop-rest
decreases-loop-rest l = length l.rest
