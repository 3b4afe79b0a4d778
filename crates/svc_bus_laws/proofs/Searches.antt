-- Lemmas on the searches below a bound.
use Rattle.std.proofs.Common.{◌≡◌, ◌⊎◌, ◌≢◌, refl, sym, ap, ◌∙◌, ℕ, suc, zero, ◌<◌, Some, None, true, false, Bool, ◌&&◌, Option, length, get_or, inl, inr, arith, true≢false}
use Rattle.std.proofs.lemmas.Bool.{cases_Bool, cases_eq}
use Rattle.svc_bus_laws.specs.Search.{least, greatest, all_below, any_below, tabulate}

-- a number below the next bound is below this one, or is it
pub cases_below : (k n : ℕ) → k < suc n → (k < n) ⊎ (k ≡ n)
cases_below k n h = grind arith

pub some_is : (m n : ℕ) → ◌≡◌ {A = Option ℕ} (Some m) (Some n) → m ≡ n
some_is m n e = ap (λ o. elim o [ None ↦ 0 | Some x ↦ x ]) e

-- ---- least

pub least_same : (n : ℕ) (p q : ℕ → Bool) → ((k : ℕ) → k < n → p k ≡ q k) → least n p ≡ least n q
least_same zero p q same = refl
least_same (suc n) p q same =
    let below = least_same n p q (λ k h. same k (omega (arith, h))) in
    let here = same n (omega arith) in
    rw (below, here)

pub least_none : (n : ℕ) (p : ℕ → Bool) → ((k : ℕ) → k < n → p k ≡ false) → least n p ≡ None
least_none zero p never = refl
least_none (suc n) p never =
    let below = least_none n p (λ k h. never k (omega (arith, h))) in
    let here = never n (omega arith) in
    rw (below, here)

-- what a search says of the numbers before its answer
pub record Found (n : ℕ) (p : ℕ → Bool) (m : ℕ) : Type 0 where
  pub within : m < n
  pub passes : p m ≡ true
  pub before : (k : ℕ) → k < m → p k ≡ false

pub least_cases : (n : ℕ) (p : ℕ → Bool) → ((least n p ≡ None) × ((k : ℕ) → k < n → p k ≡ false)) ⊎ ((m : ℕ) × (least n p ≡ Some m) × Found n p m)
least_cases zero p = inl (refl, λ k h. absurd (omega (arith, h)))
least_cases (suc n) p = elim (least_cases n p) [
  | inr (m, is, found) ↦ inr (m, rw is, record { within = omega (arith, found.within); passes = found.passes; before = found.before })
  | inl (none, never) ↦ elim (cases_Bool (p n)) [
    | inl pass ↦ inr (n, rw (none, pass), record { within = omega arith; passes = pass; before = never })
    | inr fail ↦ inl (rw (none, fail), λ k h. elim (cases_below k n h) [ inl lt ↦ never k lt | inr e ↦ rw e fail ])
  ]
]

pub least_found : (n : ℕ) (p : ℕ → Bool) (m : ℕ) → Found n p m → least n p ≡ Some m
least_found n p m found = elim (least_cases n p) [
  | inl (none, never) ↦ absurd (true≢false (sym found.passes ∙ never m found.within))
  | inr (k, is, other) ↦ is ∙ ap Some (elim (cases_eq k m) [
    | inl e ↦ e
    | inr ne ↦ elim (order k m ne) [
      | inl lt ↦ absurd (true≢false (sym other.passes ∙ found.before k lt))
      | inr gt ↦ absurd (true≢false (sym found.passes ∙ other.before m gt))
    ]
  ])
]
  where
    order : (k m : ℕ) → k ≢ m → (k < m) ⊎ (m < k)
    order k m ne = grind arith

-- ---- greatest

-- the greatest place that passes a test, or that none does
pub greatest_cases : (n : ℕ) (test : ℕ → Bool) → ((greatest n test ≡ None) × ((k : ℕ) → k < n → test k ≡ false)) ⊎ ((m : ℕ) × (greatest n test ≡ Some m) × (m < n) × (test m ≡ true) × ((k : ℕ) → m < k → k < n → test k ≡ false))
greatest_cases zero test = inl (refl, λ k h. absurd (omega (arith, h)))
greatest_cases (suc n) test = elim (cases_Bool (test n)) [
  | inl pass ↦ inr (n, rw pass, omega arith, pass, λ k h i. absurd (omega (arith, h, i)))
  | inr fail ↦ elim (greatest_cases n test) [
    | inl (none, never) ↦ inl (rw fail none, λ k h. elim (cases_below k n h) [ inl lt ↦ never k lt | inr e ↦ rw e fail ])
    | inr (m, is, below, pass, after) ↦ inr (m, rw fail is, omega (arith, below), pass, λ k h i. elim (cases_below k n i) [ inl lt ↦ after k h lt | inr e ↦ rw e fail ])
  ]
]

pub greatest_same : (n : ℕ) (p q : ℕ → Bool) → ((k : ℕ) → k < n → p k ≡ q k) → greatest n p ≡ greatest n q
greatest_same zero p q same = refl
greatest_same (suc n) p q same =
    let below = greatest_same n p q (λ k h. same k (omega (arith, h))) in
    let here = same n (omega arith) in
    rw (below, here)

-- ---- all and any

pub all_from : (n : ℕ) (p : ℕ → Bool) → ((k : ℕ) → k < n → p k ≡ true) → all_below n p ≡ true
all_from zero p each = refl
all_from (suc n) p each =
    let below = all_from n p (λ k h. each k (omega (arith, h))) in
    let here = each n (omega arith) in
    rw (below, here)

pub all_same : (n : ℕ) (p q : ℕ → Bool) → ((k : ℕ) → k < n → p k ≡ q k) → all_below n p ≡ all_below n q
all_same zero p q same = refl
all_same (suc n) p q same =
    let below = all_same n p q (λ k h. same k (omega (arith, h))) in
    let here = same n (omega arith) in
    rw (below, here)

pub all_fails : (n : ℕ) (p : ℕ → Bool) → all_below n p ≡ false → (k : ℕ) × (k < n) × (p k ≡ false)
all_fails zero p e = absurd (true≢false e)
all_fails (suc n) p e = elim (cases_Bool (p n)) [
  | inr fail ↦ (n, omega arith, fail)
  | inl pass ↦ elim (cases_Bool (all_below n p)) [
    | inl all ↦ absurd (true≢false (sym (rw (all, pass)) ∙ e))
    | inr some ↦ let w = all_fails n p some in (w.0, omega (arith, w.1), w.2)
  ]
]

pub all_refuted : (n : ℕ) (test : ℕ → Bool) (k : ℕ) → k < n → test k ≡ false → all_below n test ≡ false
all_refuted zero test k h e = absurd (omega (arith, h))
all_refuted (suc n) test k h e = elim (cases_Bool (test n)) [
  | inr fail ↦ rw fail (right_false _)
  | inl pass ↦ elim (cases_eq k n) [
    | inl is ↦ absurd (true≢false (sym (rw is pass) ∙ e))
    | inr ne ↦ rw (all_refuted n test k (omega (arith, h, ne)) e)
  ]
]
  where
    right_false : (x : Bool) → (x && false) ≡ false
    right_false true = refl
    right_false false = refl

pub all_true : (n : ℕ) (test : ℕ → Bool) → all_below n test ≡ true → (k : ℕ) → k < n → test k ≡ true
all_true n test e k h = elim (cases_Bool (test k)) [ inl pass ↦ pass | inr fail ↦ absurd (true≢false (sym e ∙ all_refuted n test k h fail)) ]

pub any_none : (n : ℕ) (p : ℕ → Bool) → ((k : ℕ) → k < n → p k ≡ false) → any_below n p ≡ false
any_none zero p never = refl
any_none (suc n) p never =
    let below = any_none n p (λ k h. never k (omega (arith, h))) in
    let here = never n (omega arith) in
    rw (below, here)

pub any_same : (n : ℕ) (p q : ℕ → Bool) → ((k : ℕ) → k < n → p k ≡ q k) → any_below n p ≡ any_below n q
any_same zero p q same = refl
any_same (suc n) p q same =
    let below = any_same n p q (λ k h. same k (omega (arith, h))) in
    let here = same n (omega arith) in
    rw (below, here)

pub any_fails : (n : ℕ) (p : ℕ → Bool) → any_below n p ≡ false → (k : ℕ) → k < n → p k ≡ false
any_fails zero p e k h = absurd (omega (arith, h))
any_fails (suc n) p e k h = elim (cases_Bool (any_below n p)) [
  | inl pass ↦ absurd (true≢false (sym (rw pass) ∙ e))
  | inr below ↦ elim (cases_below k n h) [ inl lt ↦ any_fails n p below k lt | inr is ↦ rw is (rw below at e) ]
]

pub any_found : (n : ℕ) (test : ℕ → Bool) (k : ℕ) → k < n → test k ≡ true → any_below n test ≡ true
any_found n test k h e = elim (cases_Bool (any_below n test)) [ inl some ↦ some | inr none ↦ absurd (true≢false (sym e ∙ any_fails n test none k h)) ]

-- ---- tables

pub length-tabulate : {A : Type 0} (n : ℕ) (item : ℕ → A) → length (tabulate n item) ≡ n
length-tabulate zero item = refl
length-tabulate (suc n) item = ap suc (length-tabulate n (λ p. item (suc p)))

pub get_or-tabulate : {A : Type 0} (n : ℕ) (item : ℕ → A) (p : ℕ) (d : A) → p < n → get_or (tabulate n item) p d ≡ item p
get_or-tabulate zero item p d h = absurd (omega (arith, h))
get_or-tabulate (suc n) item zero d h = refl
get_or-tabulate (suc n) item (suc p) d h = get_or-tabulate n (λ k. item (suc k)) p d (omega (arith, h))
