-- Bytes cut into numbers, and put together again.
use Rattle.std.proofs.Common.{◌≡◌, ℕ, zero, suc, ◌+◌, ◌*◌, ◌/◌, ◌%◌, ◌<◌, ◌≤◌, List, [], ◌∷◌, ◌++◌, length, drop, refl, sym, ◌∙◌, ap, arith}
use Rattle.std.proofs.lemmas.List.{append_assoc, drop-drop, length-drop}
use Rattle.svc_image.specs.Format.{bytes_of_half, bytes_of_word, bytes_of_words, half_at, word_at, words_in}
use Rattle.svc_image.proofs.Wordwise.{AreBytes, bytes-drop}

half-first : (bytes : List ℕ) → 2 ≤ length bytes → AreBytes bytes → bytes_of_half (half_at bytes 0) ++ drop 2 bytes ≡ bytes
unfolding bytes_of_half half_at
half-first [] whole small = absurd (omega (arith, whole))
half-first (a ∷ []) whole small = absurd (omega (arith, whole))
half-first (a ∷ b ∷ rest) whole small =
    let low : a < 256 = small 0 in
    let high : b < 256 = small 1 in
    let first : (a + 256 * (b + 256 * 0)) % 256 ≡ a = omega (arith, low) in
    let second : (a + 256 * (b + 256 * 0)) / 256 % 256 ≡ b = omega (arith, low, high) in
    λ i. first i ∷ second i ∷ rest

word-first : (bytes : List ℕ) → 4 ≤ length bytes → AreBytes bytes → bytes_of_word (word_at bytes 0) ++ drop 4 bytes ≡ bytes
unfolding bytes_of_word word_at
word-first [] whole small = absurd (omega (arith, whole))
word-first (a ∷ []) whole small = absurd (omega (arith, whole))
word-first (a ∷ b ∷ []) whole small = absurd (omega (arith, whole))
word-first (a ∷ b ∷ c ∷ []) whole small = absurd (omega (arith, whole))
word-first (a ∷ b ∷ c ∷ d ∷ rest) whole small =
    let a_fits : a < 256 = small 0 in
    let b_fits : b < 256 = small 1 in
    let c_fits : c < 256 = small 2 in
    let d_fits : d < 256 = small 3 in
    let first : (a + 256 * (b + 256 * (c + 256 * (d + 256 * 0)))) % 256 ≡ a = omega (arith, a_fits) in
    let second : (a + 256 * (b + 256 * (c + 256 * (d + 256 * 0)))) / 256 % 256 ≡ b = omega (arith, a_fits, b_fits) in
    let third : (a + 256 * (b + 256 * (c + 256 * (d + 256 * 0)))) / 65536 % 256 ≡ c = omega (arith, a_fits, b_fits, c_fits) in
    let fourth : (a + 256 * (b + 256 * (c + 256 * (d + 256 * 0)))) / 16777216 % 256 ≡ d = omega (arith, a_fits, b_fits, c_fits, d_fits) in
    λ i. first i ∷ second i ∷ third i ∷ fourth i ∷ rest

-- the bytes of the number at a place, and what follows it
pub half-chunk : (bytes : List ℕ) (place next : ℕ) → place + 2 ≡ next → next ≤ length bytes → AreBytes bytes
    → bytes_of_half (half_at bytes place) ++ drop next bytes ≡ drop place bytes
unfolding half_at
half-chunk bytes place next step whole small =
    let left : 2 ≤ length (drop place bytes) = omega (arith, length-drop place bytes, step, whole) in
    let rest : drop 2 (drop place bytes) ≡ drop next bytes = drop-drop 2 place bytes ∙ ap (λ (n : ℕ). drop n bytes) step in
    ap (λ (r : List ℕ). bytes_of_half (half_at bytes place) ++ r) (sym rest) ∙ half-first (drop place bytes) left (bytes-drop place bytes small)

pub word-chunk : (bytes : List ℕ) (place next : ℕ) → place + 4 ≡ next → next ≤ length bytes → AreBytes bytes
    → bytes_of_word (word_at bytes place) ++ drop next bytes ≡ drop place bytes
unfolding word_at
word-chunk bytes place next step whole small =
    let left : 4 ≤ length (drop place bytes) = omega (arith, length-drop place bytes, step, whole) in
    let rest : drop 4 (drop place bytes) ≡ drop next bytes = drop-drop 4 place bytes ∙ ap (λ (n : ℕ). drop n bytes) step in
    ap (λ (r : List ℕ). bytes_of_word (word_at bytes place) ++ r) (sym rest) ∙ word-first (drop place bytes) left (bytes-drop place bytes small)

words-first : (n : ℕ) (bytes : List ℕ) → 4 * n ≤ length bytes → AreBytes bytes → bytes_of_words (words_in n bytes) ++ drop (4 * n) bytes ≡ bytes
unfolding bytes_of_words words_in
words-first zero bytes whole small = refl
words-first (suc n) bytes whole small =
    let left : 4 * n ≤ length (drop 4 bytes) = omega (arith, length-drop 4 bytes, whole) in
    let place : 4 + 4 * n ≡ 4 * suc n = omega arith in
    let rest : drop (4 * n) (drop 4 bytes) ≡ drop (4 * suc n) bytes = drop-drop (4 * n) 4 bytes ∙ ap (λ (m : ℕ). drop m bytes) place in
    let later = words-first n (drop 4 bytes) left (bytes-drop 4 bytes small) in
    append_assoc (bytes_of_word (word_at bytes 0)) (bytes_of_words (words_in n (drop 4 bytes))) (drop (4 * suc n) bytes)
    ∙ ap (λ (r : List ℕ). bytes_of_word (word_at bytes 0) ++ r) (ap (λ (r : List ℕ). bytes_of_words (words_in n (drop 4 bytes)) ++ r) (sym rest) ∙ later)
    ∙ word-first bytes (omega (arith, whole)) small

-- the bytes of the words at a place, and what follows them
pub words-chunk : (n : ℕ) (bytes : List ℕ) (place next : ℕ) → place + 4 * n ≡ next → next ≤ length bytes → AreBytes bytes
    → bytes_of_words (words_in n (drop place bytes)) ++ drop next bytes ≡ drop place bytes
words-chunk n bytes place next step whole small =
    let left : 4 * n ≤ length (drop place bytes) = omega (arith, length-drop place bytes, step, whole) in
    let rest : drop (4 * n) (drop place bytes) ≡ drop next bytes = drop-drop (4 * n) place bytes ∙ ap (λ (m : ℕ). drop m bytes) step in
    ap (λ (r : List ℕ). bytes_of_words (words_in n (drop place bytes)) ++ r) (sym rest) ∙ words-first n (drop place bytes) left (bytes-drop place bytes small)
