use Rattle.std.specs.Io.KnownBytes.{append_known}
use Rattle.std.proofs.KnownBytes.{Appends-kept}
use Rattle.svc_report.specs.Summary.{summary_of}
use Rattle.svc_report.proofs.PendingLines.{before_any}
use Rattle.svc_report.proofs.PlainLines.{on_ok}
use Rattle.svc_report.proofs.summary.write_summary.Goals as goal

pub returns-clause-ok : goal.returns-clause-ok
returns-clause-ok g c =
    let now = g.W.Write.contents in
    let rows = append_known (now c.write_rows.new.w) c.write_rows.new.pending in
    let text = summary_of c.args.output.now c.args.tasks c.args.ending c.args.counts in
    let start = before_any (now c.args.w.now) rows c.new-pending.result text c.new-pending.ensures c.in_ok-write_rows.ensures.ok in
    on_ok c.write_all.result (λ kept. Appends-kept (now c.args.w.now) rows (now c.write_all.new.w) text start kept) c.write_all.ensures.ok
