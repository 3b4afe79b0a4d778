-- Words that differ in no bit are equal.
use Rattle.std.proofs.Common.{◌≡◌, ◌∙◌, ◌<◌, ◌+◌, ℕ, List, ap, arith, get_or, subst}
use Rattle.std.specs.Int.Bits.{bit_or, bit_xor, or_zero_l, xor_add_and, xor_self}
use Rattle.std.proofs.lemmas.Nat.{and_le_l, and_le_r, le_or_l, le_or_r}
use borrow.Author.Count.{below_more}

same_word : (a b : ℕ) → bit_xor a b ≡ 0 → a ≡ b
same_word a b none = omega (arith, none, xor_add_and a b, and_le_l a b, and_le_r a b)

-- where the bits kept are none after one place more, the lists agree up to there
pub agree_more : (xs ys : List ℕ) (kept place : ℕ) → (kept ≡ 0 → (k : ℕ) → k < place → get_or xs k 0 ≡ get_or ys k 0)
    → bit_or kept (bit_xor (get_or xs place 0) (get_or ys place 0)) ≡ 0 → (k : ℕ) → k < place + 1 → get_or xs k 0 ≡ get_or ys k 0
agree_more xs ys kept place agree none =
    let here : ℕ = bit_xor (get_or xs place 0) (get_or ys place 0) in
    let old : kept ≡ 0 = omega (arith, none, le_or_l kept here) in
    let new : here ≡ 0 = omega (arith, none, le_or_r kept here) in
    below_more (λ (k : ℕ). get_or xs k 0 ≡ get_or ys k 0) place (agree old) (same_word (get_or xs place 0) (get_or ys place 0) new)

-- and of one list the bits kept stay none
pub none_more : (xs ys : List ℕ) (kept place : ℕ) → xs ≡ ys → kept ≡ 0 → bit_or kept (bit_xor (get_or xs place 0) (get_or ys place 0)) ≡ 0
none_more xs ys kept place same none =
    ap (λ (n : ℕ). bit_or n (bit_xor (get_or xs place 0) (get_or ys place 0))) none
    ∙ (or_zero_l (bit_xor (get_or xs place 0) (get_or ys place 0))
    ∙ subst (λ (zs : List ℕ). bit_xor (get_or xs place 0) (get_or zs place 0) ≡ 0) same (xor_self (get_or xs place 0)))
