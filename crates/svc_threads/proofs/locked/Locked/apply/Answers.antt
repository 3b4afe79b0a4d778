use Rattle.std.proofs.Common.{rules, ◌≡◌, subst, sym, ap, ◌∙◌}
use Rattle.svc_threads.specs.declared.board.BoardRow.{BoardRow}
use Rattle.svc_threads.specs.Boards.{InOrder}
use Rattle.svc_threads.specs.Counts.{IsSmall, row_of_entries, with_entry}
use Rattle.svc_threads.proofs.Counting.{row_longer, row_small}
use Rattle.svc_threads.proofs.locked.Locked.apply.Goals as goal

pub with_entry-row-requires : goal.with_entry-row-requires
with_entry-row-requires g c =
    let e = c.in_ok-slip.ensures in
    let new : row_of_entries c.apply.new.self.entries ≡ with_entry c.self.inside.counts c.in_ok-slip.slip.entry =
    ap row_of_entries e.entries ∙ (row_longer c.self.inside.recorder.entries c.in_ok-slip.slip.entry ∙ sym (ap (λ (r : BoardRow). with_entry r c.in_ok-slip.slip.entry) c.self.invariant.0)) in
    subst IsSmall new (row_small c.apply.new.self e.counted)

pub publish-requires-clause-order : goal.publish-requires-clause-order
publish-requires-clause-order g c =
    let e = c.in_ok-slip.ensures in
    let new : row_of_entries c.apply.new.self.entries ≡ c.with_entry-row.result =
    ap row_of_entries e.entries ∙ (row_longer c.self.inside.recorder.entries c.in_ok-slip.slip.entry ∙ (sym (ap (λ (r : BoardRow). with_entry r c.in_ok-slip.slip.entry) c.self.invariant.0) ∙ sym c.with_entry-row.ensures)) in
    subst InOrder new e.counted.in_order

pub invariant_of-self-2 : goal.invariant_of-self-2
invariant_of-self-2 g c =
    let e = c.in_ok-slip.ensures in
    let new : row_of_entries c.apply.new.self.entries ≡ c.with_entry-row.result =
    ap row_of_entries e.entries ∙ (row_longer c.self.inside.recorder.entries c.in_ok-slip.slip.entry ∙ (sym (ap (λ (r : BoardRow). with_entry r c.in_ok-slip.slip.entry) c.self.invariant.0) ∙ sym c.with_entry-row.ensures)) in
    (sym new, search rules)
