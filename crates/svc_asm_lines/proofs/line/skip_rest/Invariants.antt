use Rattle.std.proofs.Common.{◌≡◌, length}
use Rattle.svc_asm_lines.specs.declared.line.Passed.TheVariants as passed
use Rattle.svc_asm_lines.specs.Statements.{past_rest}
use Rattle.svc_asm_lines.proofs.line.skip_rest.Given as goal

abbrev pub invariant-loop-rest : goal.invariant-loop-rest
invariant-loop-rest l = past_rest l.place l.rest ≡ past_rest passed.Plain l.text

abbrev pub decreases-loop-rest : goal.decreases-loop-rest
decreases-loop-rest l = length l.rest
