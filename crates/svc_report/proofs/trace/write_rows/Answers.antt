use Rattle.csv.specs.Writing.{fields_text, is_blank}
use Rattle.svc_report.specs.Lines.{joined}
use Rattle.svc_report.proofs.trace.write_rows.Goals as goal

pub loop-entry-init : goal.loop-entry-init
unfolding is_blank fields_text joined
loop-entry-init g c = c.in_ok-write_line.ensures.ok
