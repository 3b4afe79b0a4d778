-- Each step keeps the rule of the board.
use Rattle.std.proofs.Common.{◌≡◌, ◌≢◌, ℕ, List, true, false, true≢false, set, refl, sym, ◌∙◌, subst, ⊎_elim, arith}
use mathlib.Core.Option.{some}
use lib.ListN.{get_elem?}
use Rattle.crossbeam_utils.specs.Register.{Turns, Forks}
use Rattle.atomic_table.proofs.Lists.{at_set, at_snoc, set_again}
use Rattle.svc_threads.specs.declared.board.BoardRow.{BoardRow}
use Rattle.svc_threads.specs.declared.board.View.{View}
use Rattle.svc_threads.specs.Boards.{InOrder, AtMost, Fits, Ruled, view_of, Published, HasRead, reader}

at_most_trans : (r s t : BoardRow) → AtMost r s → AtMost s t → AtMost r t
at_most_trans r s t a b = (omega (arith, a, b), omega (arith, a, b), omega (arith, a, b), omega (arith, a, b))

at_most_self : (r : BoardRow) → AtMost r r
at_most_self r = (omega arith, omega arith, omega arith, omega arith)

-- after one pass's view is replaced, each pass fits, where the others still do and this one does
fits_set : (seat : ℕ) (row : BoardRow) (views : List View) (by : ℕ) (w : View)
    → ((j : ℕ) (u : View) → j ≢ by → get_elem? views j ≡ some u → Fits seat row j u) → Fits seat row by w
    → (j : ℕ) (u : View) → get_elem? (set views by w) j ≡ some u → Fits seat row j u
fits_set seat row views by w others mine j u e =
    ⊎_elim
    (λ (x : (j ≡ by) × (w ≡ u)). subst (λ (y : ℕ × View). Fits seat row y.0 y.1) (λ i. (sym x.0 i, x.1 i)) mine)
    (λ (x : (j ≢ by) × (get_elem? views j ≡ some u)). others j u x.0 x.1)
    (at_set views by j w u e)

pub publishes : (by : ℕ) (v : View) (new : BoardRow) → v.publishes ≡ true → InOrder new → AtMost v.row new → Turns Ruled by v (λ _. new) Published
publishes by v new is order grows row views h at =
    let mine = (h.1.1 by v at).1 is in
    let up : AtMost row new = subst (λ (r : BoardRow). AtMost r new) mine.1 grows in (
      view_of v.publishes new,
      (
        order,
        (
          h.1.0,
          fits_set h.1.0 new views by (view_of v.publishes new)
              (λ j u apart e. (at_most_trans u.row row new (h.1.1 j u e).0 up, λ p. absurd (apart (((h.1.1 j u e).1 p).0 ∙ sym mine.0))))
              (at_most_self new, λ _. (mine.0, refl)),
        ),
      ),
      refl,
    )

pub reads : (by : ℕ) (v : View) → Turns Ruled by v (λ x. x) HasRead
reads by v row views h at =
    let mine = h.1.1 by v at in (
      view_of v.publishes row,
      (h.0, (h.1.0, fits_set h.1.0 row views by (view_of v.publishes row) (λ j u _ e. h.1.1 j u e) (at_most_self row, λ p. ((mine.1 p).0, refl)))),
      (refl, h.0, mine.0),
    )

pub forks : (by : ℕ) (v : View) → Forks Ruled by v v (reader v)
forks by v row views h at = (
  h.0,
  (
    h.1.0,
    λ j u e. ⊎_elim
        (λ (was : get_elem? (set views by v) j ≡ some u). h.1.1 j u (subst (λ (l : List View). get_elem? l j ≡ some u) (set_again views by v at) was))
        (λ (same : reader v ≡ u). subst (Fits h.1.0 row j) same ((h.1.1 by v at).0, λ (p : false ≡ true). absurd (true≢false (sym p))))
        (at_snoc (set views by v) (reader v) u j e),
  ),
)
