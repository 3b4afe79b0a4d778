-- Each entry of the history has a row wherever it is legal, and so all of a legal history have one.
use Rattle.std.proofs.Common.{subst}
use Rattle.std.specs.List.{AllByRecursion}
use Rattle.std.proofs.lemmas.List.{take_all}
use Rattle.svc_machine_laws.specs.Standing.{opened_at}
use Rattle.svc_report.proofs.LegalRows.{HasRowIfLegal, all_have_rows}
use Rattle.svc_report.proofs.legal_rows.legal_history_has_rows.Goals as goal

pub returns : goal.returns
returns c = λ img config legal.
    let es = c.args.entries.now in
    let each = subst (AllByRecursion HasRowIfLegal) (take_all c.loop-entry.entry-index es c.loop-entry-test.false) c.loop-entry.invariant in
    all_have_rows img config (opened_at img config 0) es each legal
