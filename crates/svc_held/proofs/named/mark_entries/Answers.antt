use Rattle.std.proofs.Common.{◌∙◌, ◌+◌, List, ap, get_or, length, subst, sym, take}
use Rattle.std.proofs.lemmas.Option.{get_or_from_slice_get, slice_get-get_or}
use Rattle.svc_history_laws.specs.declared.entry.Entry.{Entry}
use Rattle.svc_held.specs.declared.named.Namers.{Namers}
use Rattle.svc_held.specs.Named.{IsMarked, marked}
use Rattle.svc_held.proofs.Marks.{nothing, one_marked}
use Rattle.svc_held.proofs.named.mark_entries.Goals as goal

pub loop-entry-preserved : goal.loop-entry-preserved
loop-entry-preserved c =
    let es = c.args.entries.now in
    let i = c.loop-entry.entry-index in
    let words = length c.args.marks.now in
    let one = one_marked es words c.loop-entry.marks i nothing c.loop-entry-test.true c.loop-entry.invariant in
    let same = get_or_from_slice_get es i (get_or es i nothing) _ (slice_get-get_or es i nothing c.loop-entry-test.true) in
    let now = c.mark_entry.ensures ∙ ap (λ (e : Entry). marked e c.loop-entry.marks) same in
    subst (λ (marks : List Namers). IsMarked (take (i + 1) es) words marks) (sym now) one
