use Rattle.csv.specs.Writing.{default_writer, row_text}
use Rattle.svc_report.specs.Table.{header_text, summary_fields, summary_names}
use Rattle.svc_report.proofs.PlainLines.{on_ok, then_appends}
use Rattle.svc_report.proofs.summary_row.write_summary_row.Goals as goal

pub returns-clause-ok : goal.returns-clause-ok
returns-clause-ok g c =
    let now = g.W.Write.contents in
    on_ok c.write_row.result (then_appends (now c.args.w.now) (now c.write_names.new.w) (now c.write_row.new.w)
    (header_text c.args.row.header summary_names) (row_text default_writer (summary_fields c.args.row.label.now c.args.tasks c.args.ending c.args.counts.now))
    c.in_ok-write_names.ensures.ok) (rw (c.in_ok-push_fields.ensures) at c.write_row.ensures.ok)
