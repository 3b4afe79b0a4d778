-- Sums and least numbers over the first so many, where one number changes.
use Rattle.std.proofs.Common.{ℕ, zero, suc, ◌≡◌, ◌+◌, ◌<◌, Option, Some, None, refl, sym, ap, ap₂, ◌∙◌, subst, arith, inl, inr}
use Rattle.std.proofs.lemmas.Bool.{cases_eq}
use Rattle.svc_depend_laws.specs.Over.{sum_over, least_over, lesser}

pub sum_same : (f g : ℕ → ℕ) (n : ℕ) → ((i : ℕ) → i < n → g i ≡ f i) → sum_over g n ≡ sum_over f n
sum_same f g zero h = refl
sum_same f g (suc n) h = ap₂ (λ x y. x + y) (sum_same f g n (λ i b. h i (omega (arith, b)))) (h n (omega arith))

-- one of the numbers is greater by d
pub sum_step : (f g : ℕ → ℕ) (n b d : ℕ) → b < n → ((i : ℕ) → (i ≡ b → ⊥) → g i ≡ f i) → g b ≡ f b + d → sum_over g n ≡ sum_over f n + d
sum_step f g zero b d below h more = absurd (omega (arith, below))
sum_step f g (suc n) b d below h more = elim (cases_eq b n) [
  | inl e ↦
      let rest : sum_over g n ≡ sum_over f n = sum_same f g n (λ i l. h i (λ s. omega (arith, l, e, s))) in
      let last : g n ≡ f n + d = subst (λ k. g k ≡ f k + d) e more in
      omega (arith, rest, last)
  | inr ne ↦
      let rest : sum_over g n ≡ sum_over f n + d = sum_step f g n b d (omega (arith, below, ne)) h more in
      let last : g n ≡ f n = h n (λ s. ne (sym s)) in
      omega (arith, rest, last)
]

pub least_same : (f g : ℕ → Option ℕ) (n : ℕ) → ((i : ℕ) → i < n → g i ≡ f i) → least_over g n ≡ least_over f n
least_same f g zero h = refl
least_same f g (suc n) h = ap₂ lesser (h n (omega arith)) (least_same f g n (λ i b. h i (omega (arith, b))))

lesser_assoc : (a b c : Option ℕ) → lesser (lesser a b) c ≡ lesser a (lesser b c)
lesser_assoc None b c = refl
lesser_assoc (Some x) None c = refl
lesser_assoc (Some x) (Some y) None = refl
lesser_assoc (Some x) (Some y) (Some z) = ap Some (omega arith)

lesser_swap : (a b c : Option ℕ) → lesser a (lesser b c) ≡ lesser b (lesser a c)
lesser_swap None None c = refl
lesser_swap None (Some y) None = refl
lesser_swap None (Some y) (Some z) = refl
lesser_swap (Some x) None None = refl
lesser_swap (Some x) None (Some z) = refl
lesser_swap (Some x) (Some y) None = ap Some (omega arith)
lesser_swap (Some x) (Some y) (Some z) = ap Some (omega arith)

-- one of them is the lesser of d and what it was
pub least_step : (f g : ℕ → Option ℕ) (n b : ℕ) (d : Option ℕ) → b < n → ((i : ℕ) → (i ≡ b → ⊥) → g i ≡ f i) → g b ≡ lesser d (f b) → least_over g n ≡ lesser d (least_over f n)
least_step f g zero b d below h more = absurd (omega (arith, below))
least_step f g (suc n) b d below h more = elim (cases_eq b n) [
  | inl e ↦
      let rest : least_over g n ≡ least_over f n = least_same f g n (λ i l. h i (λ s. omega (arith, l, e, s))) in
      let last : g n ≡ lesser d (f n) = subst (λ k. g k ≡ lesser d (f k)) e more in
      ap₂ lesser last rest ∙ lesser_assoc d (f n) (least_over f n)
  | inr ne ↦
      let rest : least_over g n ≡ lesser d (least_over f n) = least_step f g n b d (omega (arith, below, ne)) h more in
      let last : g n ≡ f n = h n (λ s. ne (sym s)) in
      ap₂ lesser last rest ∙ lesser_swap (f n) d (least_over f n)
]

pub lesser_none : (o : Option ℕ) → lesser o None ≡ o
lesser_none None = refl
lesser_none (Some d) = refl
