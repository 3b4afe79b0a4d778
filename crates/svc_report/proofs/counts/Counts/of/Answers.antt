use Rattle.std.proofs.Common.{ℕ, None, get_or, ap, ◌∙◌}
use Rattle.std.proofs.lemmas.List.{take_all}
use Rattle.svc_history_laws.specs.declared.entry.Entry.{Entry}
use Rattle.svc_history_laws.specs.declared.entry.Kind.TheVariants.{Assign}
use Rattle.svc_history_laws.specs.declared.entry.ReplyKind.TheVariants.{Assigned}
use Rattle.svc_report.specs.declared.counts.Counts.{Counts}
use Rattle.svc_report.specs.Counting.{with_entry}
use Rattle.svc_report.specs.Summary.{counts_of}
use Rattle.svc_report.proofs.Counting.{next_counts}
use Rattle.svc_report.proofs.counts.Counts.of.Goals as goal

abbrev nothing : Entry
nothing = record { kind = Assign; unit = record { 0 = 0 }; arg = None; local = None; ask = None; reply = Assigned; addr = None; word = None; served = None; from = None; cause = None; first = None; squashed = None }

pub loop-entry-preserved : goal.loop-entry-preserved
loop-entry-preserved c =
    let es = c.args.entries.now in
    let i : ℕ = c.loop-entry.entry-index in
    c.add.ensures ∙ (ap (λ (r : Counts). with_entry r (get_or es i nothing)) c.loop-entry.invariant ∙ next_counts es i nothing c.loop-entry-test.true)

pub returns : goal.returns
returns c = c.loop-entry.invariant ∙ ap counts_of (take_all c.loop-entry.entry-index c.args.entries.now c.loop-entry-test.false)
