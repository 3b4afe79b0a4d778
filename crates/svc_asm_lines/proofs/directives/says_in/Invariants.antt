use Rattle.std.proofs.Common.{◌≡◌, drop}
use Rattle.svc_asm_lines.specs.Statements.{says_in}
use Rattle.svc_asm_lines.proofs.directives.says_in.Given as goal

abbrev pub invariant-loop-row : goal.invariant-loop-row
invariant-loop-row l = says_in (drop l.row-index l.rows) l.name ≡ says_in l.rows l.name
