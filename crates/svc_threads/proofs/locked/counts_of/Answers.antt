use Rattle.std.proofs.Common.{arith, ℕ, ◌<◌, ◌≤◌, List, None, length, take, get_or, sym, ap, ◌∙◌, subst}
use Rattle.std.proofs.lemmas.List.{take_all}
use Rattle.svc_history_laws.specs.declared.entry.Entry.{Entry}
use Rattle.svc_history_laws.specs.declared.entry.Kind.TheVariants.{Assign}
use Rattle.svc_history_laws.specs.declared.entry.ReplyKind.TheVariants.{Assigned}
use Rattle.svc_threads.specs.declared.board.BoardRow.{BoardRow}
use Rattle.svc_threads.specs.Boards.{InOrder}
use Rattle.svc_threads.specs.Counts.{row_of_entries, with_entry, IsSmall}
use Rattle.svc_threads.proofs.Counting.{row_first, row_small, next_row, next_small}
use Rattle.svc_threads.proofs.locked.counts_of.Goals as goal

abbrev nothing : Entry
nothing = record { kind = Assign; unit = record { 0 = 0 }; arg = None; local = None; ask = None; reply = Assigned; addr = None; word = None; served = None; from = None; cause = None; first = None; squashed = None }

pub with_entry-counts-requires : goal.with_entry-counts-requires
with_entry-counts-requires c =
    let e = c.entries-entry-items.ensures in
    let es = c.args.recorder.now.entries in
    let i : ℕ = c.loop-entry.entry-index in
    let inside : i < length es = omega (arith, ap length e.entries) in
    subst (λ (r : BoardRow). IsSmall (with_entry r (get_or c.entries-entry-items.result.now i nothing))) (sym c.loop-entry.invariant)
    (subst (λ (l : List Entry). IsSmall (with_entry (row_of_entries (take i es)) (get_or l i nothing))) (sym e.entries) (next_small es i nothing inside (row_small c.args.recorder.now e.counted)))

pub loop-entry-preserved : goal.loop-entry-preserved
loop-entry-preserved c =
    let e = c.entries-entry-items.ensures in
    let es = c.args.recorder.now.entries in
    let i : ℕ = c.loop-entry.entry-index in
    let inside : i < length es = omega (arith, ap length e.entries) in
    c.with_entry-counts.ensures
    ∙ (ap (λ (r : BoardRow). with_entry r (get_or c.entries-entry-items.result.now i nothing)) c.loop-entry.invariant
    ∙ (ap (λ (l : List Entry). with_entry (row_of_entries (take i es)) (get_or l i nothing)) e.entries ∙ next_row es i nothing inside))

pub returns-clause-numbers : goal.returns-clause-numbers
returns-clause-numbers c =
    let e = c.entries-entry-items.ensures in
    let es = c.args.recorder.now.entries in
    let i : ℕ = c.loop-entry.entry-index in
    let past : length es ≤ i = omega (arith, ap length e.entries) in
    c.loop-entry.invariant ∙ ap row_of_entries (take_all i es past)

pub returns-clause-order : goal.returns-clause-order
returns-clause-order c =
    let e = c.entries-entry-items.ensures in
    let es = c.args.recorder.now.entries in
    let i : ℕ = c.loop-entry.entry-index in
    let past : length es ≤ i = omega (arith, ap length e.entries) in
    subst InOrder (sym (c.loop-entry.invariant ∙ ap row_of_entries (take_all i es past))) e.counted.in_order

pub loop-entry-init : goal.loop-entry-init
loop-entry-init c = row_first
