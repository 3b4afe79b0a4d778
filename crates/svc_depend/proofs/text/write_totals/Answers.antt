use Rattle.std.proofs.Common.{List, ℕ, [], None, ◌∙◌, subst}
use Rattle.std.specs.Io.KnownBytes.{Appends}
use Rattle.svc_report.specs.Summary.{summary_of}
use Rattle.svc_report.proofs.PlainLines.{then_appends}
use Rattle.svc_depend.specs.Tables.{totals_rows}
use Rattle.svc_depend.proofs.text.write_totals.Goals as goal

pub returns-clause-ok : goal.returns-clause-ok
returns-clause-ok g c =
    let a = g.W.Write.contents c.args.w.now in
    let b = g.W.Write.contents c.write_summary.new.w in
    let d = g.W.Write.contents c.write_text.new.w in
    then_appends a b d (summary_of [] c.args.tasks c.args.ending None) (totals_rows c.args.totals.now)
    c.in_ok-write_summary.ensures.ok
    (subst (λ (t : List ℕ). Appends b d t) (c.deref.ensures.value ∙ c.in_ok-text.ensures) c.in_ok-write_text.ensures)
