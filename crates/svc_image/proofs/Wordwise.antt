-- Words of 32 bits in bytes, and bytes of words.
use Rattle.std.proofs.Common.{◌≡◌, ℕ, zero, suc, ◌+◌, ◌-◌, ◌*◌, ◌^◌, ◌<◌, Bool, true, false, List, [], ◌∷◌, ◌++◌, length, take, drop, slice_index, refl, sym, ◌∙◌, ap, arith}
use Rattle.std.proofs.lemmas.Bool.{or_from, or_left, or_right}
use Rattle.std.proofs.lemmas.List.{append_assoc, drop-drop, drop_at, length-append, get_or-drop, ext_get_or, take_more, flat_map_more, drop-take}
use Rattle.std.proofs.lemmas.List.Elements.{All-nil, All-cons, All-head, All-tail}
use Rattle.std.specs.List.{flat_map, list_any}
use Rattle.byteorder.specs.Endian.{little_bytes, little_number, IsRead}
use Rattle.byteorder.specs.Numbers.{little_number-reads_back, little_from-lt, little_from-take, length-bytes_low_first}
use Rattle.svc_image.specs.Format.{bytes_of_word, bytes_of_words, word_at, words_in}
use Rattle.svc_image.specs.Image.{AreWords}

-- each of some bytes is a byte
abbrev pub AreBytes : List ℕ → Type 0
AreBytes bytes = (k : ℕ) → slice_index bytes k < 256

-- what is left of bytes
pub bytes-drop : (n : ℕ) (bytes : List ℕ) → AreBytes bytes → AreBytes (drop n bytes)
bytes-drop n bytes small k = rw (get_or-drop n bytes k 0) (small (n + k))

-- the word after the first ones, seen from the second
pub word_at-drop : (bytes : List ℕ) (k : ℕ) → word_at (drop 4 bytes) (4 * k) ≡ word_at bytes (4 * suc k)
unfolding word_at
word_at-drop bytes k =
    let place : 4 + 4 * k ≡ 4 * suc k = omega arith in
    ap (λ (xs : List ℕ). little_number 4 xs) (drop-drop (4 * k) 4 bytes ∙ ap (λ (n : ℕ). drop n bytes) place)

-- there are n words
pub length-words_in : (n : ℕ) (bytes : List ℕ) → length (words_in n bytes) ≡ n
unfolding words_in
length-words_in zero bytes = refl
length-words_in (suc n) bytes = ap (λ (m : ℕ). suc m) (length-words_in n (drop 4 bytes))

-- the k-th of them
pub get_or-words_in : (n : ℕ) (bytes : List ℕ) (k : ℕ) → k < n → slice_index (words_in n bytes) k ≡ word_at bytes (4 * k)
unfolding words_in
get_or-words_in zero bytes k low = absurd (omega arith)
get_or-words_in (suc n) bytes zero low = refl
get_or-words_in (suc n) bytes (suc k) low = get_or-words_in n (drop 4 bytes) k (omega arith) ∙ word_at-drop bytes k

-- none of the words passes a test
pub any-words_in-none : (p : ℕ → Bool) (n : ℕ) (bytes : List ℕ) → ((k : ℕ) → k < n → p (word_at bytes (4 * k)) ≡ false) → list_any p (words_in n bytes) ≡ false
unfolding words_in
any-words_in-none p zero bytes fails = refl
any-words_in-none p (suc n) bytes fails =
    or_from (p (word_at bytes 0)) (list_any p (words_in n (drop 4 bytes))) (fails 0 (omega arith))
    (any-words_in-none p n (drop 4 bytes) (λ k low. ap p (word_at-drop bytes k) ∙ fails (suc k) (omega arith)))

-- one of the words does
pub any-words_in-found : (p : ℕ → Bool) (n : ℕ) (bytes : List ℕ) (k : ℕ) → k < n → p (word_at bytes (4 * k)) ≡ true → list_any p (words_in n bytes) ≡ true
unfolding words_in
any-words_in-found p zero bytes k low found = absurd (omega arith)
any-words_in-found p (suc n) bytes zero low found = or_left (p (word_at bytes 0)) (list_any p (words_in n (drop 4 bytes))) found
any-words_in-found p (suc n) bytes (suc k) low found =
    or_right (p (word_at bytes 0)) (list_any p (words_in n (drop 4 bytes)))
    (any-words_in-found p n (drop 4 bytes) k (omega arith) (ap p (word_at-drop bytes k) ∙ found))

-- words that were read one by one are the words that stand there
pub read-words_in : (n : ℕ) (bytes words : List ℕ) → length words ≡ n → IsRead (λ m xs. little_number m xs) 4 bytes words → words ≡ words_in n bytes
unfolding word_at
read-words_in n bytes words len read =
    ext_get_or 0 words (words_in n bytes) (len ∙ sym (length-words_in n bytes))
    (λ k low. read k low ∙ sym (get_or-words_in n bytes k (omega (arith, len))))

-- words fit 32 bits
pub words_in-fit : (n : ℕ) (bytes : List ℕ) → AreBytes bytes → AreWords (words_in n bytes)
unfolding words_in word_at
words_in-fit zero bytes small = All-nil (λ (x : ℕ). x < 2 ^ 32)
words_in-fit (suc n) bytes small =
    All-cons (λ (x : ℕ). x < 2 ^ 32) (word_at bytes 0) (words_in n (drop 4 bytes)) (little_from-lt 0 4 bytes small) (words_in-fit n (drop 4 bytes) (bytes-drop 4 bytes small))

-- words have four bytes each
pub length-bytes_of_words : (words : List ℕ) → length (bytes_of_words words) ≡ 4 * length words
unfolding bytes_of_words bytes_of_word
length-bytes_of_words [] = refl
length-bytes_of_words (word ∷ words) = omega (arith, length-append (little_bytes 4 word) (flat_map bytes_of_word words), length-bytes_low_first 0 4 word, length-bytes_of_words words)

-- the words of the bytes of words are these words
pub words_in-bytes_of_words : (words rest : List ℕ) → AreWords words → words_in (length words) (bytes_of_words words ++ rest) ≡ words
unfolding words_in word_at bytes_of_words bytes_of_word
words_in-bytes_of_words [] rest fit = refl
words_in-bytes_of_words (word ∷ words) rest fit =
    let whole = append_assoc (little_bytes 4 word) (bytes_of_words words) rest in
    let first = little_number-reads_back 4 word (bytes_of_words words ++ rest) (All-head (λ (x : ℕ). x < 2 ^ 32) word words fit) in
    let later = words_in-bytes_of_words words rest (All-tail (λ (x : ℕ). x < 2 ^ 32) word words fit) in
    rw (first, later) refl

-- what follows the bytes of words
pub drop-bytes_of_words : (words rest : List ℕ) (n : ℕ) → 4 * length words ≡ n → drop n (bytes_of_words words ++ rest) ≡ rest
drop-bytes_of_words words rest n len = drop_at (bytes_of_words words) rest n (length-bytes_of_words words ∙ len)

-- a word more
pub bytes_of_words-more : (words : List ℕ) (i : ℕ) → i < length words → bytes_of_words (take (i + 1) words) ≡ bytes_of_words (take i words) ++ bytes_of_word (slice_index words i)
unfolding bytes_of_words
bytes_of_words-more words i low =
    ap (flat_map bytes_of_word) (take_more words i 0 low) ∙ sym (flat_map_more bytes_of_word [] (take i words) (slice_index words i))

-- a word in the rest of the bytes
pub word_at-rest : (bytes : List ℕ) (m n : ℕ) → word_at (drop m bytes) n ≡ word_at bytes (m + n)
unfolding word_at
word_at-rest bytes m n = ap (λ (xs : List ℕ). little_number 4 xs) (drop-drop n m bytes)

-- the words of a part that holds just them
words_in-take : (n m : ℕ) (bytes : List ℕ) → 4 * n ≡ m → words_in n (take m bytes) ≡ words_in n bytes
unfolding words_in word_at
words_in-take zero m bytes len = refl
words_in-take (suc n) m bytes len =
    let rest_len : 4 + 4 * n ≡ m = omega (arith, len) in
    let first : little_number 4 (take m bytes) ≡ little_number 4 bytes = little_from-take 0 4 m bytes (omega (arith, rest_len)) in
    let rest : drop 4 (take m bytes) ≡ take (4 * n) (drop 4 bytes) = ap (λ (k : ℕ). drop 4 (take k bytes)) (sym rest_len) ∙ drop-take 4 (4 * n) bytes in
    let later : words_in n (drop 4 (take m bytes)) ≡ words_in n (drop 4 bytes) = ap (λ (xs : List ℕ). words_in n xs) rest ∙ words_in-take n (4 * n) (drop 4 bytes) refl in
    λ i. first i ∷ later i

pub words_in-part : (n : ℕ) (bytes : List ℕ) (place next : ℕ) → place + 4 * n ≡ next → words_in n (take (next - place) (drop place bytes)) ≡ words_in n (drop place bytes)
words_in-part n bytes place next len = words_in-take n (next - place) (drop place bytes) (omega (arith, len))
