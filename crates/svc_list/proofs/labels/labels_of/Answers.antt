use Rattle.std.proofs.Common.{◌≡◌, ◌∙◌, ◌*◌, ◌<◌, ◌==◌, ◌||◌, Bool, false, List, length, ap, sym, rules, arith}
use Rattle.std.specs.Prelude.{replicate, slice_index_or}
use Rattle.std.specs.List.{list_any}
use Rattle.svc_list.specs.Listings.{is_target, is_labelled}
use Rattle.svc_list.proofs.Tables.{written_whole, unmarked, unmarked_length}
use Rattle.svc_list.proofs.labels.labels_of.Goals as goal

pub returns-clause-labels : goal.returns-clause-labels
unfolding is_labelled
returns-clause-labels c = λ n low.
    let entries = c.args.entries.now in
    let text = c.args.text.now in
    let table = c.in_ok-table.table in
    let made : table.items ≡ replicate (length text) false = c.in_ok-table.ensures.items_if_clones_equal (λ y h. search (rules, h)) in
    let before : c.deref_mut.result.now ≡ replicate (length text) false = c.deref_mut.ensures.value ∙ made in
    let fresh : slice_index_or c.deref_mut.result.now n false ≡ false = ap (λ (xs : List Bool). slice_index_or xs n false) before ∙ unmarked (length text) n in
    let size : length c.mark_all.new.table ≡ length table.items = c.mark_all.ensures.size ∙ ap (λ (xs : List Bool). length xs) c.deref_mut.ensures.value in
    let many : length c.deref_mut.result.now ≡ length text = ap (λ (xs : List Bool). length xs) before ∙ unmarked_length (length text) in
    let inside : n < length c.deref_mut.result.now = omega (arith, many, low) in
    ap (λ (xs : List Bool). slice_index_or xs n false) (written_whole table.len c.mark_all.new.table table.items size (sym table.ok.0))
    ∙ c.mark_all.ensures.marks n inside
    ∙ ap (λ (b : Bool). (b || list_any (λ e. e == 4 * n) entries) || is_target (length text) (4 * n) 0 text) fresh
