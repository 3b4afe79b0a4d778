-- A load of bytes is an extraction from a word, and a store of bytes replaces bytes of a word.
use Rattle.std.proofs.Common.{◌≡◌, ℕ, zero, suc, ◌+◌, ◌*◌, ◌^◌, ◌/◌, ◌%◌, ◌<◌, ◌≤◌, ◌⊎◌, inl, inr, ◌≢◌, ⊎_elim, List, length, get_or, set, arith, sym, ◌∙◌, ap, refl, subst, add-zero, zero-add, get_or-set_same, get_or-set_other}
use Rattle.std.proofs.lemmas.Bool.{cases_eq, cases_lt}
use Rattle.std.proofs.lemmas.List.{get_or_past}
use Rattle.std.proofs.lemmas.Nat.{pow-add, mod_below, div-add-mod'}
use Rattle.std.proofs.Math.Nat.{pow-suc, suc-add, add-mul-mod_self_left, add-mul-div_left, mod-eq_of_lt, div-eq_of_lt, div-div-eq-div-mul}
use Rattle.std.proofs.Math.ListN.{length-set}
use Rattle.svc_core_laws.specs.Bytes.{number_at, word_at, with_bytes, bytes_from, word_with_bytes}

-- a number is its lower bytes and its higher ones
number-split : (i j k : ℕ) (m : List ℕ) → number_at (i + j) k m ≡ number_at i k m + 256 ^ i * number_at j (k + i) m
number-split zero j k m = rw (zero-add j, add-zero k) (omega arith)
number-split (suc i) j k m =
    let e : k + suc i ≡ suc k + i = omega arith in
    let h : number_at (i + j) (suc k) m ≡ number_at i (suc k) m + 256 ^ i * number_at j (suc k + i) m = number-split i j (suc k) m in
    rw (suc-add i j, e, pow-suc 256 i) (omega arith)

pub number-below : (n k : ℕ) (m : List ℕ) → ((i : ℕ) → get_or m i 0 < 256) → number_at n k m < 256 ^ n
number-below zero k m bytes = omega arith
number-below (suc n) k m bytes =
    let here : get_or m k 0 < 256 = bytes k in
    let h : number_at n (suc k) m < 256 ^ n = number-below n (suc k) m bytes in
    rw (pow-suc 256 n) (omega arith)

pow_256 : (n : ℕ) → 0 < 256 ^ n
pow_256 zero = omega arith
pow_256 (suc n) = let h : 0 < 256 ^ n = pow_256 n in rw (pow-suc 256 n) (omega arith)

-- the parts of a number that is cut at two places
low_part : (a y p : ℕ) → a < p → (a + p * y) % p ≡ a
low_part a y p h = add-mul-mod_self_left a p y ∙ mod-eq_of_lt h

high_part : (a y p : ℕ) → a < p → 0 < p → (a + p * y) / p ≡ y
high_part a y p h pos = add-mul-div_left a y pos ∙ ap (λ (n : ℕ). n + y) (div-eq_of_lt h) ∙ zero-add y

-- the three parts of a word
record Parts (o n r a : ℕ) (m : List ℕ) : Type 0 where
  pub whole : word_at m a ≡ number_at o (4 * a) m + 256 ^ o * (number_at n (4 * a + o) m + 256 ^ n * number_at r (4 * a + o + n) m)

parts : (o n r a : ℕ) (m : List ℕ) → o + (n + r) ≡ 4 → Parts o n r a m
unfolding word_at
parts o n r a m e = record { whole = ap (λ (s : ℕ). number_at s (4 * a) m) (sym e) ∙ number-split o (n + r) (4 * a) m ∙ ap (λ (x : ℕ). number_at o (4 * a) m + 256 ^ o * x) (number-split n r (4 * a + o) m) }

-- the load of n bytes from byte o of a word
pub load-is : (o n r a : ℕ) (m : List ℕ) → o + (n + r) ≡ 4 → ((i : ℕ) → get_or m i 0 < 256) → number_at n (4 * a + o) m ≡ bytes_from o n (word_at m a)
load-is o n r a m e bytes =
    let p = parts o n r a m e in
    let A = number_at o (4 * a) m in
    let B = number_at n (4 * a + o) m in
    let C = number_at r (4 * a + o + n) m in
    let high : (A + 256 ^ o * (B + 256 ^ n * C)) / 256 ^ o ≡ B + 256 ^ n * C = high_part A (B + 256 ^ n * C) (256 ^ o) (number-below o (4 * a) m bytes) (pow_256 o) in
    let low : (B + 256 ^ n * C) % 256 ^ n ≡ B = low_part B C (256 ^ n) (number-below n (4 * a + o) m bytes) in
    sym (ap (λ (w : ℕ). bytes_from o n w) p.whole ∙ ap (λ (x : ℕ). x % 256 ^ n) high ∙ low)

-- what stands elsewhere stays
pub length-with_bytes : (n k v : ℕ) (m : List ℕ) → length (with_bytes n k v m) ≡ length m
length-with_bytes zero k v m = refl
length-with_bytes (suc n) k v m = length-with_bytes n (suc k) (v / 256) (set m k (v % 256)) ∙ length-set m k (v % 256)

pub byte_elsewhere : (n k v i : ℕ) (m : List ℕ) → (i < k) ⊎ (k + n ≤ i) → get_or (with_bytes n k v m) i 0 ≡ get_or m i 0
byte_elsewhere zero k v i m h = refl
byte_elsewhere (suc n) k v i m h =
    let apart : (i < suc k) ⊎ (suc k + n ≤ i) = grind arith in
    let ne : i ≢ k = λ e. grind arith in
    byte_elsewhere n (suc k) (v / 256) i (set m k (v % 256)) apart ∙ get_or-set_other m k i (v % 256) 0 ne

number-same : (n j : ℕ) (m m' : List ℕ) → ((i : ℕ) → j ≤ i → i < j + n → get_or m i 0 ≡ get_or m' i 0) → number_at n j m ≡ number_at n j m'
number-same zero j m m' h = refl
number-same (suc n) j m m' h =
    let here : get_or m j 0 ≡ get_or m' j 0 = h j (omega arith) (omega arith) in
    let rest : number_at n (suc j) m ≡ number_at n (suc j) m' = number-same n (suc j) m m' (λ i p q. h i (omega arith) (omega arith)) in
    cc

number_elsewhere : (n j l k v : ℕ) (m : List ℕ) → (j + n ≤ k) ⊎ (k + l ≤ j) → number_at n j (with_bytes l k v m) ≡ number_at n j m
number_elsewhere n j l k v m h = number-same n j (with_bytes l k v m) m (λ i p q. byte_elsewhere l k v i m (let side : (i < k) ⊎ (k + l ≤ i) = grind arith in side))

mod_split : (v p : ℕ) → 0 < p → v % 256 + 256 * (v / 256 % p) ≡ v % (p * 256)
mod_split v p pos =
    let q = v / 256 in
    let t = q % p in
    let lower : t < p = mod_below q p pos in
    let whole : q / p * p + t ≡ q = div-add-mod' q p in
    let x = v % 256 + 256 * t in
    let is : v ≡ x + p * 256 * (q / p) = omega arith in
    let below : x < p * 256 = omega arith in
    sym (ap (λ (n : ℕ). n % (p * 256)) is ∙ add-mul-mod_self_left x (p * 256) (q / p) ∙ mod-eq_of_lt below)

number_written : (n k v : ℕ) (m : List ℕ) → k + n ≤ length m → number_at n k (with_bytes n k v m) ≡ v % 256 ^ n
number_written zero k v m h = omega arith
number_written (suc n) k v m h =
    let m' = set m k (v % 256) in
    let here : get_or (with_bytes n (suc k) (v / 256) m') k 0 ≡ v % 256 = byte_elsewhere n (suc k) (v / 256) k m' (inl (omega arith)) ∙ get_or-set_same m k (v % 256) 0 (omega arith) in
    let rest : number_at n (suc k) (with_bytes n (suc k) (v / 256) m') ≡ v / 256 % 256 ^ n = number_written n (suc k) (v / 256) m' (omega (arith, length-set m k (v % 256))) in
    rw (here, rest, pow-suc 256 n) (mod_split v (256 ^ n) (pow_256 n))

-- the store of n bytes into byte o of a word
pub store-is : (o n r a v : ℕ) (m : List ℕ) → o + (n + r) ≡ 4 → ((i : ℕ) → get_or m i 0 < 256) → 4 * a + 4 ≤ length m → word_at (with_bytes n (4 * a + o) v m) a ≡ word_with_bytes o n v (word_at m a)
store-is o n r a v m e bytes fits =
    let m' = with_bytes n (4 * a + o) v m in
    let p = parts o n r a m e in
    let p' = parts o n r a m' e in
    let A = number_at o (4 * a) m in
    let B = number_at n (4 * a + o) m in
    let C = number_at r (4 * a + o + n) m in
    let ea : number_at o (4 * a) m' ≡ A = number_elsewhere o (4 * a) n (4 * a + o) v m (inl (omega arith)) in
    let eb : number_at n (4 * a + o) m' ≡ v % 256 ^ n = number_written n (4 * a + o) v m (omega arith) in
    let ec : number_at r (4 * a + o + n) m' ≡ C = number_elsewhere r (4 * a + o + n) n (4 * a + o) v m (inr (omega arith)) in
    let below = number-below o (4 * a) m bytes in
    let low : (A + 256 ^ o * (B + 256 ^ n * C)) % 256 ^ o ≡ A = low_part A (B + 256 ^ n * C) (256 ^ o) below in
    let high : (A + 256 ^ o * (B + 256 ^ n * C)) / 256 ^ o ≡ B + 256 ^ n * C = high_part A (B + 256 ^ n * C) (256 ^ o) below (pow_256 o) in
    let highest : (B + 256 ^ n * C) / 256 ^ n ≡ C = high_part B C (256 ^ n) (number-below n (4 * a + o) m bytes) (pow_256 n) in
    let top : word_at m a / 256 ^ (o + n) ≡ C = ap (λ (w : ℕ). w / 256 ^ (o + n)) p.whole ∙ ap (λ (q : ℕ). (A + 256 ^ o * (B + 256 ^ n * C)) / q) (pow-add 256 o n) ∙ sym (div-div-eq-div-mul (A + 256 ^ o * (B + 256 ^ n * C)) (256 ^ o) (256 ^ n)) ∙ ap (λ (x : ℕ). x / 256 ^ n) high ∙ highest in
    let bottom : word_at m a % 256 ^ o ≡ A = ap (λ (w : ℕ). w % 256 ^ o) p.whole ∙ low in
    p'.whole ∙ rw (ea, eb, ec, bottom, top) refl

-- the other words stay
pub store_elsewhere : (o n r a b v : ℕ) (m : List ℕ) → o + (n + r) ≡ 4 → b ≢ a → word_at (with_bytes n (4 * a + o) v m) b ≡ word_at m b
unfolding word_at
store_elsewhere o n r a b v m e ne = number_elsewhere 4 (4 * b) n (4 * a + o) v m (let side : (4 * b + 4 ≤ 4 * a + o) ⊎ (4 * a + o + n ≤ 4 * b) = grind arith in side)

set_bytes : (m : List ℕ) (k x : ℕ) → x < 256 → ((i : ℕ) → get_or m i 0 < 256) → (i : ℕ) → get_or (set m k x) i 0 < 256
set_bytes m k x small bytes i =
    ⊎_elim
    (λ same. ⊎_elim
    (λ inside. subst (λ (n : ℕ). n < 256) (sym (ap (λ (j : ℕ). get_or (set m k x) j 0) same ∙ get_or-set_same m k x 0 inside)) small)
    (λ past. let z : get_or (set m k x) i 0 ≡ 0 = get_or_past (set m k x) i 0 (omega (arith, length-set m k x)) in omega arith)
    (cases_lt k (length m)))
    (λ other. let e = get_or-set_other m k i x 0 other in let b : get_or m i 0 < 256 = bytes i in omega arith)
    (cases_eq i k)

pub bytes-with_bytes : (n k v : ℕ) (m : List ℕ) → ((i : ℕ) → get_or m i 0 < 256) → (i : ℕ) → get_or (with_bytes n k v m) i 0 < 256
bytes-with_bytes zero k v m bytes = bytes
bytes-with_bytes (suc n) k v m bytes = bytes-with_bytes n (suc k) (v / 256) (set m k (v % 256)) (set_bytes m k (v % 256) (omega arith) bytes)
