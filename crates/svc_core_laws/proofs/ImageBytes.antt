-- The words of an image's flat memory are the image's words.
use Rattle.std.specs.Prelude.{All}
use Rattle.std.proofs.Common.{◌≡◌, ℕ, zero, suc, ◌+◌, ◌*◌, ◌^◌, ◌/◌, ◌%◌, ◌<◌, List, [], ◌∷◌, length, get_or, arith, ◌∙◌, ap, refl}
use Rattle.svc_core_laws.specs.Bytes.{number_at, word_at, bytes_of, IsMemory}

-- a number past four bytes stands four bytes earlier without them
number-past : (n k a b c d : ℕ) (m : List ℕ) → number_at n (suc (suc (suc (suc k)))) (a ∷ b ∷ c ∷ d ∷ m) ≡ number_at n k m
number-past zero k a b c d m = refl
number-past (suc n) k a b c d m = ap (λ (x : ℕ). get_or m k 0 + 256 * x) (number-past n (suc k) a b c d m)

-- word a of the flat memory of these words
pub word-bytes_of : (ws : List ℕ) (a : ℕ) → All (λ w. w < 2 ^ 32) ws → word_at (bytes_of ws) a ≡ get_or ws a 0
unfolding word_at bytes_of
word-bytes_of [] a fit = refl
word-bytes_of (w ∷ ws) zero fit = let small : w < 2 ^ 32 = fit 0 0 (omega arith) in omega arith
word-bytes_of (w ∷ ws) (suc a) fit =
    let place : 4 * suc a ≡ suc (suc (suc (suc (4 * a)))) = omega arith in
    ap (λ (k : ℕ). number_at 4 k (bytes_of (w ∷ ws))) place
    ∙ number-past 4 (4 * a) (w % 256) (w / 256 % 256) (w / 256 / 256 % 256) (w / 256 / 256 / 256 % 256) (bytes_of ws)
    ∙ word-bytes_of ws a (λ k d h. fit (suc k) d (omega arith))

length-bytes_of : (ws : List ℕ) → length (bytes_of ws) ≡ 4 * length ws
unfolding bytes_of
length-bytes_of [] = omega arith
length-bytes_of (w ∷ ws) = omega (arith, length-bytes_of ws)

bytes-bytes_of : (ws : List ℕ) (i : ℕ) → get_or (bytes_of ws) i 0 < 256
unfolding bytes_of
bytes-bytes_of [] i = omega arith
bytes-bytes_of (w ∷ ws) zero = omega arith
bytes-bytes_of (w ∷ ws) (suc zero) = omega arith
bytes-bytes_of (w ∷ ws) (suc (suc zero)) = omega arith
bytes-bytes_of (w ∷ ws) (suc (suc (suc zero))) = omega arith
bytes-bytes_of (w ∷ ws) (suc (suc (suc (suc i)))) = bytes-bytes_of ws i

pub memory_of : (ws : List ℕ) → All (λ w. w < 2 ^ 32) ws → IsMemory (length ws) (bytes_of ws)
memory_of ws fit = record { size = length-bytes_of ws; bytes = bytes-bytes_of ws }
