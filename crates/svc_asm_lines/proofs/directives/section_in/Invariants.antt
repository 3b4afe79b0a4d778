use Rattle.std.proofs.Common.{◌≡◌, drop}
use Rattle.svc_asm_lines.specs.Statements.{section_in}
use Rattle.svc_asm_lines.proofs.directives.section_in.Given as goal

abbrev pub invariant-loop-row : goal.invariant-loop-row
invariant-loop-row l = section_in (drop l.row-index l.rows) l.name ≡ section_in l.rows l.name
