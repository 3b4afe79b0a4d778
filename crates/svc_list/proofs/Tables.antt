-- A table that was written as a slice, and one of which nothing is marked.
use Rattle.std.proofs.Common.{◌≡◌, ℕ, zero, suc, Bool, false, List, [], ◌∷◌, ◌++◌, length, take, drop, refl, ap, ◌∙◌, arith}
use Rattle.std.specs.Prelude.{replicate, slice_index_or}

taken : (xs ys : List Bool) (n : ℕ) → length xs ≡ n → take n (xs ++ ys) ≡ xs
taken [] ys zero h = refl
taken [] ys (suc n) h = absurd (omega (arith, h))
taken (x ∷ xs) ys zero h = absurd (omega (arith, h))
taken (x ∷ xs) ys (suc n) h = ap (λ (rest : List Bool). x ∷ rest) (taken xs ys n (omega (arith, h)))

pub written_whole : (len : ℕ) (new old : List Bool) → length new ≡ length old → length old ≡ len → take len (new ++ drop (length new) old) ≡ new
written_whole len new old same all = taken new (drop (length new) old) len (same ∙ all)

pub unmarked : (count n : ℕ) → slice_index_or (replicate count false) n false ≡ false
unmarked zero n = refl
unmarked (suc count) zero = refl
unmarked (suc count) (suc n) = unmarked count n

pub unmarked_length : (count : ℕ) → length (replicate count false) ≡ count
unmarked_length zero = refl
unmarked_length (suc count) = ap suc (unmarked_length count)
