-- The row of a longer history, of a beginning, and of a recorder's.
use Rattle.std.proofs.Common.{◌≡◌, ℕ, ◌+◌, ◌<◌, ◌≤◌, List, [], ◌∷◌, ◌++◌, length, take, drop, get_or, refl, sym, ap, ◌∙◌, subst, arith}
use Rattle.std.proofs.lemmas.List.{take_more, take-append-drop}
use Rattle.svc_history_laws.specs.declared.entry.Entry.{Entry}
use Rattle.svc_history_laws.specs.Board.{Tally, board, tally_with, counted_on, no_events}
use Rattle.svc_history.specs.Recorded.{Recorded, IsCounted}
use Rattle.svc_threads.specs.declared.board.BoardRow.{BoardRow}
use Rattle.svc_threads.specs.Boards.{AtMost, row_of, zeros}
use Rattle.svc_threads.specs.Counts.{row_of_entries, with_entry, IsSmall}

counted_on-append : (t : Tally) (es fs : List Entry) → counted_on t (es ++ fs) ≡ counted_on (counted_on t es) fs
unfolding counted_on
counted_on-append t [] fs = refl
counted_on-append t (e ∷ es) fs = counted_on-append (tally_with t e) es fs

one_more : (t : Tally) (e : Entry) → counted_on t (e ∷ []) ≡ tally_with t e
unfolding counted_on
one_more t e = refl

pub row_first : zeros ≡ row_of_entries []
unfolding counted_on
row_first = refl

-- no number falls
abbrev Below : Tally → Tally → Type 0
Below s t = AtMost (row_of s) (row_of t)

grows : (t : Tally) (es : List Entry) → Below t (counted_on t es)
unfolding counted_on
grows t [] = (omega arith, omega arith, omega arith, omega arith)
grows t (e ∷ es) = let g = grows (tally_with t e) es in (omega (arith, g), omega (arith, g), omega (arith, g), omega (arith, g))

pub row_longer : (es : List Entry) (e : Entry) → row_of_entries (es ++ e ∷ []) ≡ with_entry (row_of_entries es) e
row_longer es e = ap row_of (counted_on-append no_events es (e ∷ []) ∙ one_more (board es) e)

-- the numbers of a recorder fit words
pub row_small : (r : Recorded) → IsCounted r → IsSmall (row_of_entries r.entries)
row_small r c =
    let few : r.machine.config.events ≤ 1000000 = r.machine.config.few_events in
    let events = c.events_few in
    let assigned = c.in_order.events in
    let tasks = c.in_order.tasks in
    (omega (arith, few, events), omega (arith, few, events, assigned), omega (arith, few, events, assigned, tasks), omega (arith, few, events, assigned, tasks))

pub next_row : (es : List Entry) (i : ℕ) (d : Entry) → i < length es → with_entry (row_of_entries (take i es)) (get_or es i d) ≡ row_of_entries (take (i + 1) es)
next_row es i d inside = sym (ap row_of_entries (take_more es i d inside) ∙ row_longer (take i es) (get_or es i d))

-- no number of a beginning is above the whole's
beginning : (es : List Entry) (n : ℕ) → AtMost (row_of_entries (take n es)) (row_of_entries es)
beginning es n =
    subst (λ (fs : List Entry). AtMost (row_of_entries (take n es)) (row_of_entries fs)) (take-append-drop n es)
    (subst (λ (t : Tally). AtMost (row_of_entries (take n es)) (row_of t)) (sym (counted_on-append no_events (take n es) (drop n es))) (grows (board (take n es)) (drop n es)))

small_below : (r s : BoardRow) → AtMost r s → IsSmall s → IsSmall r
small_below r s a b = (omega (arith, a, b), omega (arith, a, b), omega (arith, a, b), omega (arith, a, b))

pub next_small : (es : List Entry) (i : ℕ) (d : Entry) → i < length es → IsSmall (row_of_entries es) → IsSmall (with_entry (row_of_entries (take i es)) (get_or es i d))
next_small es i d inside small = subst IsSmall (sym (next_row es i d inside)) (small_below (row_of_entries (take (i + 1) es)) (row_of_entries es) (beginning es (i + 1)) small)
