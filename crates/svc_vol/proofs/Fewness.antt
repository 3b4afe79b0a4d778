-- Different numbers below a bound are no more than the bound.
use Rattle.std.proofs.Common.{◌≡◌, ◌≢◌, ◌∙◌, sym, subst, ap, ℕ, zero, suc, ◌<◌, ◌≤◌, cond, inl, inr, arith, eq-eqb, ne_eqb}
use Rattle.std.specs.Bool.{◌==◌}
use Rattle.std.proofs.lemmas.Bool.{cases_eq}

-- the last number takes the greatest one's place
abbrev swapped : ℕ → ℕ → (ℕ → ℕ) → ℕ → ℕ
swapped n m f k = cond (f k == n) (f m) (f k)

is_last : (n m : ℕ) (f : ℕ → ℕ) (k : ℕ) → f k ≡ n → swapped n m f k ≡ f m
is_last n m f k e = ap (λ b. cond b (f m) (f k)) (eq-eqb (f k) n e)

is_kept : (n m : ℕ) (f : ℕ → ℕ) (k : ℕ) → f k ≢ n → swapped n m f k ≡ f k
is_kept n m f k ne = ap (λ b. cond b (f m) (f k)) (ne_eqb (f k) n ne)

-- different numbers below n are at most n
pub few_numbers : (n m : ℕ) (f : ℕ → ℕ) → ((k : ℕ) → k < m → f k < n) → ((j k : ℕ) → j < m → k < m → f j ≡ f k → j ≡ k) → m ≤ n
few_numbers n zero f below apart = omega arith
few_numbers zero (suc m) f below apart = let h : f 0 < 0 = below 0 (omega arith) in absurd (omega (arith, h))
few_numbers (suc n) (suc m) f below apart = let few : m ≤ n = few_numbers n m (swapped n m f) small distinct in omega (arith, few)
  where
    within : (k : ℕ) → f k < suc n → f k ≢ n → f k < n
    within k h ne = omega (arith, h, ne)

    last_of : (k : ℕ) → k < m → f k ≢ f m
    last_of k h e = let same : k ≡ m = apart k m (omega (arith, h)) (omega arith) e in absurd (omega (arith, h, same))

    small : (k : ℕ) → k < m → swapped n m f k < n
    small k h = elim (cases_eq (f k) n) [
      | inl e ↦ subst (λ x. x < n) (sym (is_last n m f k e)) (within m (below m (omega arith)) (λ last. last_of k h (e ∙ sym last)))
      | inr ne ↦ subst (λ x. x < n) (sym (is_kept n m f k ne)) (within k (below k (omega (arith, h))) ne)
    ]

    distinct : (j k : ℕ) → j < m → k < m → swapped n m f j ≡ swapped n m f k → j ≡ k
    distinct j k hj hk same = elim (cases_eq (f j) n) [
      | inl ej ↦ elim (cases_eq (f k) n) [
        | inl ek ↦ apart j k (omega (arith, hj)) (omega (arith, hk)) (ej ∙ sym ek)
        | inr nk ↦ absurd (last_of k hk (sym (sym (is_last n m f j ej) ∙ same ∙ is_kept n m f k nk)))
      ]
      | inr nj ↦ elim (cases_eq (f k) n) [
        | inl ek ↦ absurd (last_of j hj (sym (is_kept n m f j nj) ∙ same ∙ is_last n m f k ek))
        | inr nk ↦ apart j k (omega (arith, hj)) (omega (arith, hk)) (sym (is_kept n m f j nj) ∙ same ∙ is_kept n m f k nk)
      ]
    ]
