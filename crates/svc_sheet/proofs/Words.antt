-- The words of the marks that are left.
use Rattle.std.proofs.Common.{◌≡◌, ◌<◌, ◌≤◌, ◌∙◌, ◌+◌, ◌++◌, ℕ, List, ap, sym, append_assoc, append-nil, drop, get_or, length}
use Rattle.std.proofs.lemmas.List.{at_drop_all, at_drop_more}
use Rattle.svc_marks.specs.declared.marks.Mark.{Mark}
use Rattle.svc_sheet.specs.declared.sheet.Sheet.{Sheet}
use Rattle.svc_sheet.specs.Values.{edges_after, words_from, words_of}

-- one mark further
pub words_move : (s : Sheet) (edges after : List ℕ) (ms : List Mark) (i : ℕ) (d : Mark) (old new all : List ℕ) → i < length ms
    → after ≡ edges_after s (get_or ms i d) edges
    → new ≡ old ++ words_of s (get_or edges (get_or ms i d).entry.unit.0 0) (get_or ms i d) (get_or ms i d).kind
    → old ++ words_from s edges (drop i ms) ≡ all → new ++ words_from s after (drop (i + 1) ms) ≡ all
unfolding words_from
words_move s edges after ms i d old new all inside moved one known =
    let m = get_or ms i d in
    let this : List ℕ = words_of s (get_or edges m.entry.unit.0 0) m m.kind in
    let rest : List ℕ = words_from s (edges_after s m edges) (drop (i + 1) ms) in
    let step : words_from s edges (drop i ms) ≡ this ++ rest = at_drop_more (words_from s edges) ms i d inside in
    ap (λ (t : List ℕ). t ++ words_from s after (drop (i + 1) ms)) one
    ∙ ap (λ (e : List ℕ). (old ++ this) ++ words_from s e (drop (i + 1) ms)) moved
    ∙ append_assoc old this rest
    ∙ ap (λ (t : List ℕ). old ++ t) (sym step)
    ∙ known

-- and at the end
pub words_end : (s : Sheet) (edges : List ℕ) (ms : List Mark) (i : ℕ) (text all : List ℕ) → length ms ≤ i
    → text ++ words_from s edges (drop i ms) ≡ all → text ≡ all
unfolding words_from
words_end s edges ms i text all over known =
    sym (append-nil text) ∙ ap (λ (t : List ℕ). text ++ t) (sym (at_drop_all (words_from s edges) ms i over)) ∙ known
