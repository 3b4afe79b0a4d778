-- How many numbers of a range pass a test.
use Rattle.std.proofs.Common.{◌≡◌, ◌≢◌, ◌∙◌, ◌+◌, ◌<◌, ◌≤◌, ◌++◌, ◌∷◌, [], ℕ, zero, suc, Bool, true, false, inl, inr, ◌⊎◌, refl, ap, ap₂, sym, arith, eq-eqb, eqb-true}
use Rattle.std.specs.Prelude.{◌||◌, ◌==◌, List, cond, count_by, flat_map}
use Rattle.std.specs.List.{list_any, range_with_len}
use Rattle.std.proofs.Math.Bool.{or-false}
use Rattle.std.proofs.lemmas.Bool.{cases_Bool, cases_eq}
use Rattle.std.proofs.lemmas.List.{append-nil}
use Rattle.std.proofs.lemmas.List.Sums.{sum_by_push}
use Rattle.svc_held.proofs.Ranges.{any_more, from_zero, lists_more}

abbrev one_if : Bool → ℕ
one_if x = cond x 1 0

-- one number more
pub count_more : (p : ℕ → Bool) (n : ℕ) → count_by p (range_with_len 0 (n + 1)) ≡ count_by p (range_with_len 0 n) + cond (p n) 1 0
count_more p n = ap (count_by p) (from_zero n) ∙ sum_by_push (λ (x : ℕ). cond (p x) 1 0) (range_with_len 0 n) n

-- tests that agree below n
pub count_same : (p q : ℕ → Bool) (n : ℕ) → ((x : ℕ) → x < n → p x ≡ q x) → count_by p (range_with_len 0 n) ≡ count_by q (range_with_len 0 n)
count_same p q zero same = refl
count_same p q (suc n) same =
    let e : n + 1 ≡ suc n = omega arith in
    ap (λ m. count_by p (range_with_len 0 m)) (sym e) ∙ count_more p n
    ∙ ap₂ (λ x y. x + cond y 1 0) (count_same p q n (λ x below. same x (omega (arith, below)))) (same n (omega arith))
    ∙ sym (ap (λ m. count_by q (range_with_len 0 m)) (sym e) ∙ count_more q n)

-- none passes
pub count_none : (n : ℕ) → count_by (λ (x : ℕ). false) (range_with_len 0 n) ≡ 0
count_none zero = refl
count_none (suc n) =
    let e : n + 1 ≡ suc n = omega arith in
    let none = count_none n in
    ap (λ m. count_by (λ (x : ℕ). false) (range_with_len 0 m)) (sym e) ∙ count_more (λ x. false) n ∙ ap (λ m. m + 0) none

neither : (u x : ℕ) → u ≢ x → (u == x) ≡ false
neither u x apart = elim (cases_Bool (u == x)) [ inr differs ↦ differs | inl same ↦ absurd (apart (eqb-true u x same)) ]

-- a test that one number more passes
pub count_one_more : (p : ℕ → Bool) (u n : ℕ) → p u ≡ false → u < n → count_by (λ x. p x || (u == x)) (range_with_len 0 n) ≡ suc (count_by p (range_with_len 0 n))
count_one_more p u zero fails below = absurd (omega (arith, below))
count_one_more p u (suc n) fails below =
    let e : n + 1 ≡ suc n = omega arith in
    let q : ℕ → Bool = λ x. p x || (u == x) in
    ap (λ m. count_by q (range_with_len 0 m)) (sym e) ∙ count_more q n
    ∙ last (λ less. count_one_more p u n fails less) (cases_eq u n)
    ∙ ap suc (sym (ap (λ m. count_by p (range_with_len 0 m)) (sym e) ∙ count_more p n))
  where
    last : (u < n → count_by (λ x. p x || (u == x)) (range_with_len 0 n) ≡ suc (count_by p (range_with_len 0 n)))
        → (u ≡ n) ⊎ (u ≢ n) → count_by (λ x. p x || (u == x)) (range_with_len 0 n) + cond (p n || (u == n)) 1 0 ≡ suc (count_by p (range_with_len 0 n) + cond (p n) 1 0)
    last more (inl same) =
        let others = count_same (λ x. p x || (u == x)) p n (λ x less. ap (λ y. p x || y) (neither u x (λ e. omega (arith, e, same, less))) ∙ or-false (p x)) in
        let mine : p n ≡ false = ap p (sym same) ∙ fails in
        let passes : (p n || (u == n)) ≡ true = ap (λ y. y || (u == n)) mine ∙ eq-eqb u n same in
        let one : one_if (p n || (u == n)) ≡ one_if true = ap one_if passes in
        let none : one_if (p n) ≡ one_if false = ap one_if mine in
        omega (arith, others, one, none)
    last more (inr apart) =
        let others = more (omega (arith, below, apart)) in
        let same : one_if (p n || (u == n)) ≡ one_if (p n) = ap one_if (ap (λ y. p n || y) (neither u n apart) ∙ or-false (p n)) in
        omega (arith, others, same)

-- rows over a range of which at most one number has any
pub no_rows : (f : ℕ → List ℕ) (n : ℕ) → ((x : ℕ) → x < n → f x ≡ []) → flat_map f (range_with_len 0 n) ≡ []
no_rows f zero none = refl
no_rows f (suc n) none =
    let e : n + 1 ≡ suc n = omega arith in
    ap (λ m. flat_map f (range_with_len 0 m)) (sym e) ∙ lists_more f n ∙ ap₂ (λ x y. x ++ y) (no_rows f n (λ x below. none x (omega (arith, below)))) (none n (omega arith))

pub one_row : (f : ℕ → List ℕ) (u n : ℕ) → u < n → ((x : ℕ) → x < n → u ≢ x → f x ≡ []) → flat_map f (range_with_len 0 n) ≡ f u
one_row f u zero below none = absurd (omega (arith, below))
one_row f u (suc n) below none =
    let e : n + 1 ≡ suc n = omega arith in
    ap (λ m. flat_map f (range_with_len 0 m)) (sym e) ∙ lists_more f n ∙ last (λ less. one_row f u n less (λ x small. none x (omega (arith, small)))) (cases_eq u n)
  where
    last : (u < n → flat_map f (range_with_len 0 n) ≡ f u) → (u ≡ n) ⊎ (u ≢ n) → flat_map f (range_with_len 0 n) ++ f n ≡ f u
    last more (inl same) = ap (λ l. l ++ f n) (no_rows f n (λ x less. none x (omega (arith, less)) (λ e. omega (arith, e, same, less)))) ∙ ap f (sym same)
    last more (inr apart) =
        ap₂ (λ l m. l ++ m) (more (omega (arith, below, apart))) (none n (omega arith) apart) ∙ append-nil (f u)

-- whether a number of a range passes, where all others fail, or all

pub any_below : (p : ℕ → Bool) (n : ℕ) → ((x : ℕ) → x < n → p x ≡ false) → list_any p (range_with_len 0 n) ≡ false
any_below p zero fails = refl
any_below p (suc n) fails =
    let e : n + 1 ≡ suc n = omega arith in
    ap (λ m. list_any p (range_with_len 0 m)) (sym e) ∙ any_more p n
    ∙ ap₂ (λ x y. x || y) (any_below p n (λ x below. fails x (omega (arith, below)))) (fails n (omega arith))

pub any_one : (p : ℕ → Bool) (u n : ℕ) → u < n → ((x : ℕ) → (x == u) ≡ false → p x ≡ false) → list_any p (range_with_len 0 n) ≡ p u
any_one p u zero below fails = absurd (omega (arith, below))
any_one p u (suc n) below fails =
    let e : n + 1 ≡ suc n = omega arith in
    ap (λ m. list_any p (range_with_len 0 m)) (sym e) ∙ any_more p n ∙ last (λ less. any_one p u n less fails) (cases_eq u n)
  where
    last : (u < n → list_any p (range_with_len 0 n) ≡ p u) → (u ≡ n) ⊎ (u ≢ n) → (list_any p (range_with_len 0 n) || p n) ≡ p u
    last earlier (inl same) =
        ap (λ x. x || p n) (any_below p n (λ x less. fails x (neither x u (λ e. omega (arith, e, same, less))))) ∙ ap p (sym same)
    last earlier (inr apart) =
        ap₂ (λ x y. x || y) (earlier (omega (arith, below, apart))) (fails n (neither n u (λ e. apart (sym e)))) ∙ or-false (p u)
