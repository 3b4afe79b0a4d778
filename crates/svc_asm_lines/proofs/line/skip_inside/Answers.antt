use Rattle.std.proofs.Common.{sym}
use Rattle.svc_asm_lines.proofs.Comments.{past_all}
use Rattle.svc_asm_lines.proofs.line.skip_inside.Goals as goal

pub returns-in-None : goal.returns-in-None
returns-in-None c = sym (past_all c.args.text.now c.in-None.ensures)
