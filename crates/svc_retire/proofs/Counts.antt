-- Counts among the numbers below a bound.
use Rattle.std.proofs.Common.{◌≡◌, ◌≢◌, ◌∙◌, refl, sym, ap, ℕ, zero, suc, ◌+◌, ◌<◌, ◌≤◌, Bool, true, false, cond, inl, inr, arith}
use Rattle.std.proofs.lemmas.Bool.{cases_eq}
use Rattle.svc_bus_laws.specs.Search.{how_many}

pub how_many_same : (n : ℕ) (p q : ℕ → Bool) → ((k : ℕ) → k < n → q k ≡ p k) → how_many n q ≡ how_many n p
how_many_same zero p q same = refl
how_many_same (suc n) p q same =
    let below = how_many_same n p q (λ k h. same k (omega (arith, h))) in
    let here = same n (omega arith) in
    rw (below, here)

-- a test adds one at most
one-at-most : (b : Bool) → cond b 1 0 ≤ 1
one-at-most true = omega arith
one-at-most false = omega arith

pub how_many_within : (n : ℕ) (p : ℕ → Bool) → how_many n p ≤ n
how_many_within zero p = omega arith
how_many_within (suc n) p = omega (arith, how_many_within n p, one-at-most (p n))

-- one that fails leaves room
pub how_many_room : (n : ℕ) (p : ℕ → Bool) (k : ℕ) → k < n → p k ≡ false → how_many n p < n
how_many_room zero p k h fail = absurd (omega (arith, h))
how_many_room (suc n) p k h fail = elim (cases_eq k n) [
  | inl is ↦
      let here : p n ≡ false = ap p (sym is) ∙ fail in
      rw here (omega (arith, how_many_within n p))
  | inr ne ↦ omega (arith, how_many_room n p k (omega (arith, h, ne)) fail, one-at-most (p n))
]

-- one more passes
pub how_many_more : (n : ℕ) (p q : ℕ → Bool) (k : ℕ) → k < n → p k ≡ false → q k ≡ true → ((j : ℕ) → j ≢ k → q j ≡ p j) → how_many n q ≡ how_many n p + 1
how_many_more zero p q k h fail pass same = absurd (omega (arith, h))
how_many_more (suc n) p q k h fail pass same = elim (cases_eq k n) [
  | inl is ↦
      let before : p n ≡ false = ap p (sym is) ∙ fail in
      let after : q n ≡ true = ap q (sym is) ∙ pass in
      let below = how_many_same n p q (λ j low. same j (omega (arith, low, is))) in
      rw (before, after) (omega (arith, below))
  | inr ne ↦
      let here : q n ≡ p n = same n (λ e. ne (sym e)) in
      rw here (omega (arith, how_many_more n p q k (omega (arith, h, ne)) fail pass same))
]

pub how_many_none : (n : ℕ) (p : ℕ → Bool) → ((k : ℕ) → k < n → p k ≡ false) → how_many n p ≡ 0
how_many_none zero p never = refl
how_many_none (suc n) p never =
    let below = how_many_none n p (λ k h. never k (omega (arith, h))) in
    let here = never n (omega arith) in
    rw (below, here)
