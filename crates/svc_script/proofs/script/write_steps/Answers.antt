use Rattle.csv.specs.Writing.{fields_text, is_blank}
use Rattle.svc_report.specs.Lines.{joined}
use Rattle.svc_script.proofs.script.write_steps.Goals as goal

pub loop-step-init : goal.loop-step-init
unfolding is_blank fields_text joined
loop-step-init g c = c.in_ok-write_line.ensures.ok
