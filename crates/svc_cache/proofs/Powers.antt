-- The remainder of a word by a power of two, as a mask.
use Rattle.std.proofs.Common.{◌≡◌, ◌∙◌, sym, ap, ℕ, zero, suc, ◌+◌, ◌-◌, ◌*◌, ◌/◌, ◌%◌, ◌^◌, ◌<◌, ◌≤◌, inl, inr, arith}
use Rattle.std.specs.Prelude.{IsTrue, bit_and, count_ones}
use Rattle.std.specs.Int.{is_power_of_two}
use Rattle.std.specs.Int.Count.{ones-ones}
use Rattle.std.proofs.lemmas.Bool.{cases_eq, eqb-true}
use Rattle.std.proofs.lemmas.Nat.{and_mask, ones_cat, ones_le_self, zero_from_ones}
use Rattle.std.proofs.Math.Nat.{pow-suc}

-- the ones of a number are those of its half and of its lowest bit
ones_of_half : (n : ℕ) → count_ones n ≡ count_ones (n / 2) + count_ones (n % 2)
ones_of_half n =
    let split : n ≡ n / 2 * 2 ^ 1 + n % 2 = omega arith in
    ap count_ones split ∙ ones_cat 1 (n / 2) (n % 2) (omega arith)

-- a number with one bit set is a power of two
power_below : (fuel n : ℕ) → n ≤ fuel → count_ones n ≡ 1 → (k : ℕ) × (n ≡ 2 ^ k)
power_below zero n below one = absurd (omega (arith, ones_le_self n))
power_below (suc fuel) n below one = elim (cases_eq (n % 2) 0) [
  | inl even ↦
      let low : count_ones (n % 2) ≡ 0 = omega (arith, ones_le_self (n % 2)) in
      let high : count_ones (n / 2) ≡ 1 = omega (arith, ones_of_half n) in
      let half = power_below fuel (n / 2) (omega (arith, ones_le_self n)) high in
      (suc half.0, omega (arith, half.1, pow-suc 2 half.0))
  | inr odd ↦
      let low : n % 2 ≡ 1 = omega arith in
      let bit : count_ones (n % 2) ≡ 1 = ap count_ones low ∙ ones-ones 1 in
      let none : n / 2 ≡ 0 = zero_from_ones (n / 2) (omega (arith, ones_of_half n)) in
      (0, omega arith)
]

pub mask_of_power : (word sets : ℕ) → IsTrue (is_power_of_two sets) → bit_and word (sets - 1) ≡ word % sets
mask_of_power word sets power =
    let found = power_below sets sets (omega arith) (eqb-true (count_ones sets) 1 power) in
    ap (λ n. bit_and word (n - 1)) found.1 ∙ and_mask word found.0 ∙ ap (λ n. word % n) (sym found.1)

-- a power of two is not zero
pub power_positive : (n : ℕ) → IsTrue (is_power_of_two n) → 0 < n
power_positive n power = let one : count_ones n ≡ 1 = eqb-true (count_ones n) 1 power in omega (arith, ones_le_self n)
