-- Each entry that the loop has passed has a row wherever it is legal.
use Rattle.std.proofs.Common.{take}
use Rattle.std.specs.List.{AllByRecursion}
use Rattle.svc_report.proofs.LegalRows.{HasRowIfLegal}
use Rattle.svc_report.proofs.legal_rows.legal_history_has_rows.Given as goal

abbrev pub invariant-loop-entry : goal.invariant-loop-entry
invariant-loop-entry l = AllByRecursion HasRowIfLegal (take l.entry-index l.entries)
