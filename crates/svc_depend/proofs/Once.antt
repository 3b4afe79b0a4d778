-- Numbers in order, among which each that passes a test stands once and no other does, are those that the test leaves of all.
use Rattle.std.proofs.Common.{ℕ, zero, suc, ◌≡◌, ◌==◌, ◌+◌, ◌<◌, ◌≤◌, ◌∷◌, inl, inr, Bool, true, false, cond, List, [], refl, sym, ap, ◌∙◌, arith}
use Rattle.std.specs.List.{AllByRecursion, count_by, filter, range_with_len}
use Rattle.std.proofs.lemmas.Bool.{cases_eq, cases_lt, cases_order, eq-eqb, ne_eqb}
use Rattle.std.proofs.lemmas.List.Sums.{sum_by-cons}
use Rattle.svc_depend.proofs.OneWord.{one_if}

-- each is no greater than those after it
abbrev pub Rises : List ℕ → Type 0
Rises [] = Unit {0}
Rises (w ∷ ws) = AllByRecursion (λ v. w ≤ v) ws × Rises ws

-- how often a number stands there
abbrev pub count_at : ℕ → List ℕ → ℕ
count_at a ws = count_by (λ v. v == a) ws

count_cons : (a w : ℕ) (ws : List ℕ) → count_at a (w ∷ ws) ≡ one_if (w == a) + count_at a ws
count_cons a w ws = sum_by-cons (λ v. one_if (v == a)) w ws

itself : (w a : ℕ) → w ≡ a → one_if (w == a) ≡ 1
itself w a e = ap one_if (eq-eqb w a e)

another : (w a : ℕ) → (w ≡ a → ⊥) → one_if (w == a) ≡ 0
another w a ne = ap one_if (ne_eqb w a ne)

-- one that is less than all isn't there
none_below : (a w : ℕ) (ws : List ℕ) → a < w → AllByRecursion (λ v. w ≤ v) ws → count_at a ws ≡ 0
none_below a w [] less all = refl
none_below a w (v ∷ vs) less all =
    let le : w ≤ v = all.0 in
    let here : one_if (v == a) ≡ 0 = another v a (λ e. omega (arith, e, le, less)) in
    let rest : count_at a vs ≡ 0 = none_below a w vs less all.1 in
    omega (arith, count_cons a v vs, here, rest)

-- of the n numbers from a on each that passes stands there once, and no other does
pub record IsOnceEach (test : ℕ → Bool) (a n : ℕ) (ws : List ℕ) : Type 0 where
  pub rises : Rises ws
  pub below : (v : ℕ) → v < a → count_at v ws ≡ 0
  pub from : (v : ℕ) → a ≤ v → count_at v ws ≡ one_if (test v)
  pub ends : (v : ℕ) → test v ≡ true → v < a + n

is_true : (t : Bool) → 1 ≤ one_if t → t ≡ true
is_true true h = refl
is_true false h = absurd (omega (arith, h))

none_left : (test : ℕ → Bool) (a : ℕ) (ws : List ℕ) → IsOnceEach test a 0 ws → ws ≡ []
none_left test a [] h = refl
none_left test a (w ∷ ws) h = elim (cases_lt w a) [
  | inl less ↦ let none = h.below w less in let one = itself w w refl in absurd (omega (arith, count_cons w w ws, none, one))
  | inr le ↦
      let some = h.from w le in
      let one = itself w w refl in
      let last : w < a + 0 = h.ends w (is_true (test w) (omega (arith, count_cons w w ws, some, one))) in
      absurd (omega (arith, last, le))
]

-- where the first number doesn't pass
later : (test : ℕ → Bool) (a n : ℕ) (ws : List ℕ) → test a ≡ false → IsOnceEach test a (suc n) ws → IsOnceEach test (a + 1) n ws
later test a n ws fails h = record {
  rises = h.rises;
  below = λ v less. elim (cases_eq v a) [
    | inl e ↦ ap (λ i. count_at i ws) e ∙ h.from a (omega arith) ∙ ap one_if fails
    | inr ne ↦ h.below v (let other : v ≡ a → ⊥ = ne in omega (arith, less, other))
  ];
  from = λ v le. h.from v (omega (arith, le));
  ends = λ v passes. (let last = h.ends v passes in omega (arith, last));
}

-- where it passes
first_is : (test : ℕ → Bool) (a n w : ℕ) (ws : List ℕ) → test a ≡ true → IsOnceEach test a (suc n) (w ∷ ws) → w ≡ a
first_is test a n w ws passes h = elim (cases_order w a) [
  | inl e ↦ e
  | inr o ↦ elim o [
    | inl less ↦ let none = h.below w less in let one = itself w w refl in absurd (omega (arith, count_cons w w ws, none, one))
    | inr more ↦
        let none : count_at a (w ∷ ws) ≡ 0 = none_below a w (w ∷ ws) more (omega arith, h.rises.0) in
        let some : count_at a (w ∷ ws) ≡ 1 = h.from a (omega arith) ∙ ap one_if passes in
        absurd (omega (arith, none, some))
  ]
]

rest_is : (test : ℕ → Bool) (a n w : ℕ) (ws : List ℕ) → test a ≡ true → w ≡ a → IsOnceEach test a (suc n) (w ∷ ws) → IsOnceEach test (a + 1) n ws
rest_is test a n w ws passes same h = record {
  rises = h.rises.1;
  below = λ v less. elim (cases_eq v a) [
    | inl e ↦
        let one = itself w v (same ∙ sym e) in
        let some : count_at v (w ∷ ws) ≡ 1 = ap (λ i. count_at i (w ∷ ws)) e ∙ h.from a (omega arith) ∙ ap one_if passes in
        omega (arith, count_cons v w ws, one, some)
    | inr ne ↦ let other : v ≡ a → ⊥ = ne in let none = h.below v (omega (arith, less, other)) in omega (arith, count_cons v w ws, none)
  ];
  from = λ v le.
      (let none = another w v (λ e. omega (arith, e, same, le)) in
      let some = h.from v (omega (arith, le)) in
      omega (arith, count_cons v w ws, none, some));
  ends = λ v p. (let last = h.ends v p in omega (arith, last));
}

first : (test : ℕ → Bool) (a n : ℕ) (ws : List ℕ) → test a ≡ true → IsOnceEach test a (suc n) ws → (vs : List ℕ) × (ws ≡ a ∷ vs) × IsOnceEach test (a + 1) n vs
first test a n [] passes h = let none : 0 ≡ 1 = h.from a (omega arith) ∙ ap one_if passes in absurd (omega (arith, none))
first test a n (w ∷ ws) passes h =
    let same : w ≡ a = first_is test a n w ws passes h in
    (ws, ap (λ (i : ℕ). i ∷ ws) same, rest_is test a n w ws passes same h)

pub once : (test : ℕ → Bool) (a n : ℕ) (ws : List ℕ) → IsOnceEach test a n ws → ws ≡ filter test (range_with_len a n)
once test a zero ws h = none_left test a ws h
once test a (suc n) ws h = by (λ vs k. once test (a + 1) n vs k) (test a) refl
  where
    after : List ℕ
    after = filter test (range_with_len (a + 1) n)

    by : ((vs : List ℕ) → IsOnceEach test (a + 1) n vs → vs ≡ after) → (t : Bool) → test a ≡ t → ws ≡ cond t (a ∷ after) after
    by rest true passes = let f = first test a n ws passes h in f.1 ∙ ap (λ (l : List ℕ). a ∷ l) (rest f.0 f.2)
    by rest false fails = rest ws (later test a n ws fails h)
