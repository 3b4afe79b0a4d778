-- Least numbers and counts below a bound.
use Rattle.std.proofs.Common.{◌≡◌, ◌≢◌, ◌∙◌, refl, sym, ap, ℕ, zero, suc, ◌+◌, ◌<◌, Bool, true, false, Some, None, inl, inr, arith}
use Rattle.std.specs.Prelude.{if◌then◌else◌}
use Rattle.std.specs.Option.{option_or}
use Rattle.std.specs.Bool.{then_some}
use Rattle.std.proofs.lemmas.Bool.{cases_eq}
use Rattle.svc_cache.specs.Search.{least, how_many}

pub least-same : (n : ℕ) (f g : ℕ → Bool) → ((k : ℕ) → k < n → f k ≡ g k) → least n f ≡ least n g
unfolding least
least-same zero f g same = refl
least-same (suc n) f g same = λ i. option_or (least-same n f g (λ k below. same k (omega (arith, below))) i) (then_some (same n (omega arith) i) n)

pub least-none : (n : ℕ) (f : ℕ → Bool) → ((k : ℕ) → k < n → f k ≡ false) → least n f ≡ None
unfolding least
least-none zero f fails = refl
least-none (suc n) f fails = λ i. option_or (least-none n f (λ k below. fails k (omega (arith, below))) i) (then_some (fails n (omega arith) i) n)

pub least-is : (n : ℕ) (f : ℕ → Bool) (k : ℕ) → k < n → f k ≡ true → ((j : ℕ) → j < k → f j ≡ false) → least n f ≡ Some k
unfolding least
least-is zero f k within passes fails = absurd (omega (arith, within))
least-is (suc n) f k within passes fails = elim (cases_eq k n) [
  | inl e ↦ (λ i. option_or (least-none n f (λ j below. fails j (omega (arith, below, e))) i) (then_some ((ap f (sym e) ∙ passes) i) n)) ∙ ap Some (sym e)
  | inr ne ↦ ap (λ o. option_or o (then_some (f n) n)) (least-is n f k (omega (arith, within, ne)) passes fails)
]

-- one for a number that passes
abbrev pub one_if : Bool → ℕ
one_if passes = if passes then 1 else 0

pub how_many-same : (n : ℕ) (f g : ℕ → Bool) → ((k : ℕ) → k < n → f k ≡ g k) → how_many n f ≡ how_many n g
unfolding how_many
how_many-same zero f g same = refl
how_many-same (suc n) f g same = λ i. how_many-same n f g (λ k below. same k (omega (arith, below))) i + one_if (same n (omega arith) i)

pub how_many-none : (n : ℕ) (f : ℕ → Bool) → ((k : ℕ) → f k ≡ false) → how_many n f ≡ 0
unfolding how_many
how_many-none zero f fails = refl
how_many-none (suc n) f fails = (λ i. how_many-none n f fails i + one_if (fails n i))

-- one number more passes
pub how_many-more : (n : ℕ) (f g : ℕ → Bool) (k : ℕ) → k < n → f k ≡ false → g k ≡ true → ((j : ℕ) → j ≢ k → g j ≡ f j) → how_many n g ≡ how_many n f + 1
unfolding how_many
how_many-more zero f g k within old new others = absurd (omega (arith, within))
how_many-more (suc n) f g k within old new others = elim (cases_eq k n) [
  | inl e ↦
      let before : how_many n g ≡ how_many n f = how_many-same n g f (λ j below. others j (omega (arith, below, e))) in
      let gone : one_if (f n) ≡ 0 = ap (λ j. one_if (f j)) (sym e) ∙ ap one_if old in
      let there : one_if (g n) ≡ 1 = ap (λ j. one_if (g j)) (sym e) ∙ ap one_if new in
      omega arith
  | inr ne ↦
      let before : how_many n g ≡ how_many n f + 1 = how_many-more n f g k (omega (arith, within, ne)) old new others in
      let here : one_if (g n) ≡ one_if (f n) = ap one_if (others n (λ same. ne (sym same))) in
      omega arith
]
