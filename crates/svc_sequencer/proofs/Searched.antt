-- What a search among rising entries tells of the tables.
use Rattle.std.proofs.Common.{ℕ, zero, suc, ◌≡◌, ◌≢◌, ◌+◌, ◌<◌, ◌≤◌, true, false, cond, List, [], ◌∷◌, length, set, Option, Some, None, refl, sym, ap, ◌∙◌, subst, slice_get, get_or, arith}
use Rattle.std.proofs.Common.{◌⊎◌, inl, inr, add-one, is_none}
use borrow.Author.Tests.{both_ways}
use Rattle.std.specs.Prelude.{nat_lt}
use Rattle.std.specs.List.Sorted.{IsStrictlyIncreasing}
use Rattle.std.proofs.lemmas.Bool.{eq-eqb, ne_eqb, lt-ltb, lt-leb}
use Rattle.svc_machine_laws.specs.Guess.{first_above}
use Rattle.svc_machine_laws.specs.Guide.{successor_in, with_successor}

-- a number that isn't below another fails the test
not_below : (e x : ℕ) → x ≤ e → nat_lt e x ≡ false
not_below e x h = lt-leb (suc e) x (omega (arith, h))

-- the first entry above, where those before an index are not above and those from there on are
pub first_at : (xs : List ℕ) (e i : ℕ) → ((k : ℕ) → k < i → k < length xs → get_or xs k 0 ≤ e) → ((k : ℕ) → i ≤ k → k < length xs → e < get_or xs k 0) → first_above xs e ≡ slice_get xs i
first_at [] e i low high = refl
first_at (x ∷ xs) e zero low high = let h : e < x = high 0 (omega arith) (omega arith) in ap (λ b. cond b (Some x) (first_above xs e)) (lt-ltb e x h)
first_at (x ∷ xs) e (suc i) low high =
    let h : x ≤ e = low 0 (omega arith) (omega arith) in
    ap (λ b. cond b (Some x) (first_above xs e)) (not_below e x h)
    ∙ first_at xs e i (λ k a b. low (suc k) (omega (arith, a)) (omega (arith, b))) (λ k a b. high (suc k) (omega (arith, a)) (omega (arith, b)))

-- the successor of an entry that stands at one index alone
pub successor_at_place : (xs : List ℕ) (os : List (Option ℕ)) (e i : ℕ) → length os ≡ length xs → i < length xs → get_or xs i 0 ≡ e → ((k : ℕ) → k < i → get_or xs k 0 ≢ e) → successor_in xs os e ≡ get_or os i None
successor_at_place [] os e i n h at before = absurd (omega (arith, h))
successor_at_place (x ∷ xs) [] e i n h at before = absurd (omega (arith, n))
successor_at_place (x ∷ xs) (o ∷ os) e zero n h at before = ap (λ b. cond b o (successor_in xs os e)) (eq-eqb x e at)
successor_at_place (x ∷ xs) (o ∷ os) e (suc i) n h at before =
    ap (λ b. cond b o (successor_in xs os e)) (ne_eqb x e (before 0 (omega arith)))
    ∙ successor_at_place xs os e i (omega (arith, n)) (omega (arith, h)) at (λ k a. before (suc k) (omega (arith, a)))

-- and of one that stands nowhere
pub no_successor : (xs : List ℕ) (os : List (Option ℕ)) (e : ℕ) → ((k : ℕ) → k < length xs → get_or xs k 0 ≢ e) → successor_in xs os e ≡ None
no_successor [] os e none = refl
no_successor (x ∷ xs) [] e none = refl
no_successor (x ∷ xs) (o ∷ os) e none =
    ap (λ b. cond b o (successor_in xs os e)) (ne_eqb x e (none 0 (omega arith))) ∙ no_successor xs os e (λ k a. none (suc k) (omega (arith, a)))

-- nothing is remembered of an entry that stands nowhere
pub nothing_set : (xs : List ℕ) (os : List (Option ℕ)) (e n : ℕ) → length os ≡ length xs → ((k : ℕ) → k < length xs → get_or xs k 0 ≢ e) → with_successor xs (Some e) (Some n) os ≡ os
nothing_set [] os e n len none = refl
nothing_set (x ∷ xs) [] e n len none = refl
nothing_set (x ∷ xs) (o ∷ os) e n len none =
    ap (λ b. cond b (Some n) o ∷ with_successor xs (Some e) (Some n) os) (ne_eqb e x (λ same. none 0 (omega arith) (sym same)))
    ∙ ap (λ l. o ∷ l) (nothing_set xs os e n (omega (arith, len)) (λ k a. none (suc k) (omega (arith, a))))

-- the one that stands at one index alone is remembered there
pub successor_set : (xs : List ℕ) (os : List (Option ℕ)) (e n i : ℕ) → length os ≡ length xs → i < length xs → get_or xs i 0 ≡ e → ((k : ℕ) → k < length xs → k ≢ i → get_or xs k 0 ≢ e)
    → with_successor xs (Some e) (Some n) os ≡ set os i (Some n)
successor_set [] os e n i len h at other = absurd (omega (arith, h))
successor_set (x ∷ xs) [] e n i len h at other = absurd (omega (arith, len))
successor_set (x ∷ xs) (o ∷ os) e n zero len h at other =
    ap (λ b. cond b (Some n) o ∷ with_successor xs (Some e) (Some n) os) (eq-eqb e x (sym at))
    ∙ ap (λ l. Some n ∷ l) (nothing_set xs os e n (omega (arith, len)) (λ k a. other (suc k) (omega (arith, a)) (λ z. absurd (omega (arith, z)))))
successor_set (x ∷ xs) (o ∷ os) e n (suc i) len h at other =
    ap (λ b. cond b (Some n) o ∷ with_successor xs (Some e) (Some n) os) (ne_eqb e x (λ same. other 0 (omega arith) (λ z. absurd (omega (arith, z))) (sym same)))
    ∙ ap (λ l. o ∷ l) (successor_set xs os e n i (omega (arith, len)) (omega (arith, h)) at (λ k a b. other (suc k) (omega (arith, a)) (λ z. b (omega (arith, z)))))

-- rising numbers: an earlier one is below a later one
pub rising_below : (xs : List ℕ) → IsStrictlyIncreasing xs → (j i : ℕ) → i < j → j < length xs → get_or xs i 0 < get_or xs j 0
rising_below xs rise zero i h within = absurd (omega (arith, h))
rising_below xs rise (suc j) i h within =
    let up : get_or xs j 0 < get_or xs (suc j) 0 = subst (λ k. get_or xs j 0 < get_or xs k 0) (add-one j) (rise j (let e = add-one j in omega (arith, e, within))) in
    elim (cases i j h) [
      | inl before ↦ let ih = rising_below xs rise j i before (omega (arith, within)) in omega (arith, ih, up)
      | inr same ↦ subst (λ k. get_or xs k 0 < get_or xs (suc j) 0) (sym same) up
    ]
  where
    cases : (i j : ℕ) → i < suc j → (i < j) ⊎ (i ≡ j)
    cases i j h = grind arith

-- one that stands at an index stands at no other
pub alone : (xs : List ℕ) → IsStrictlyIncreasing xs → (i e : ℕ) → i < length xs → get_or xs i 0 ≡ e → (k : ℕ) → k < length xs → k ≢ i → get_or xs k 0 ≢ e
alone xs rise i e inside at k within apart same = elim (cases k i apart) [
  | inl lt ↦ let h = rising_below xs rise i k lt inside in absurd (omega (arith, h, at, same))
  | inr gt ↦ let h = rising_below xs rise k i gt within in absurd (omega (arith, h, at, same))
]
  where
    cases : (k i : ℕ) → k ≢ i → (k < i) ⊎ (i < k)
    cases k i apart = grind arith

-- what a search that finds the entry tells
pub record Found (xs : List ℕ) (os : List (Option ℕ)) (e i : ℕ) : Type 0 where
  pub successor : successor_in xs os e ≡ get_or os i None
  pub next : first_above xs e ≡ slice_get xs (i + 1)
  pub remembered : (n : ℕ) → with_successor xs (Some e) (Some n) os ≡ set os i (Some n)

pub found : (xs : List ℕ) (os : List (Option ℕ)) (e i : ℕ) → IsStrictlyIncreasing xs → length os ≡ length xs → i < length xs → get_or xs i 0 ≡ e → Found xs os e i
found xs os e i rise len inside at = record {
  successor = successor_at_place xs os e i len inside at (λ k h. alone xs rise i e inside at k (omega (arith, h, inside)) (λ z. absurd (omega (arith, z, h))));
  next = first_at xs e (i + 1) (λ k h within. elim (cases k i h) [
    | inl lt ↦ let up = rising_below xs rise i k lt inside in omega (arith, up, at)
    | inr same ↦ let here : get_or xs k 0 ≡ e = ap (λ j. get_or xs j 0) same ∙ at in omega (arith, here)
  ]) (λ k h within. let up = rising_below xs rise k i (omega (arith, h)) within in omega (arith, up, at));
  remembered = λ n. successor_set xs os e n i len inside at (alone xs rise i e inside at);
}
  where
    cases : (k i : ℕ) → k < i + 1 → (k < i) ⊎ (k ≡ i)
    cases k i h = grind arith

-- and one that doesn't
pub record Missed (xs : List ℕ) (os : List (Option ℕ)) (e i : ℕ) : Type 0 where
  pub successor : successor_in xs os e ≡ None
  pub next : first_above xs e ≡ slice_get xs i
  pub remembered : (n : ℕ) → with_successor xs (Some e) (Some n) os ≡ os

pub missed : (xs : List ℕ) (os : List (Option ℕ)) (e i : ℕ) → length os ≡ length xs → ((k : ℕ) → k < i → get_or xs k 0 < e) → ((k : ℕ) → i ≤ k → k < length xs → e < get_or xs k 0) → Missed xs os e i
missed xs os e i len low high = record {
  successor = no_successor xs os e nowhere;
  next = first_at xs e i (λ k h within. let l = low k h in omega (arith, l)) high;
  remembered = λ n. nothing_set xs os e n len nowhere;
}
  where
    nowhere : (k : ℕ) → k < length xs → get_or xs k 0 ≢ e
    nowhere k within same = elim (order k i) [
      | inl lt ↦ let l = low k lt in absurd (omega (arith, l, same))
      | inr ge ↦ let h = high k ge within in absurd (omega (arith, h, same))
    ]
      where
        order : (k i : ℕ) → (k < i) ⊎ (i ≤ k)
        order k i = grind arith

-- where a task had no successor nothing is remembered
pub none_remembered : (xs : List ℕ) (os : List (Option ℕ)) (e : ℕ) → length os ≡ length xs → with_successor xs (Some e) None os ≡ os
none_remembered [] os e len = refl
none_remembered (x ∷ xs) [] e len = refl
none_remembered (x ∷ xs) (o ∷ os) e len = ap (λ l. o ∷ l) (none_remembered xs os e (omega (arith, len)))

-- the order that a search asks for
pub rising_order : (xs : List ℕ) → IsStrictlyIncreasing xs → (i j : ℕ) → i ≤ j → j < length xs → get_or xs i 0 ≤ get_or xs j 0
rising_order xs rise i j h within = elim (cases i j h) [
  | inl lt ↦ let up = rising_below xs rise j i lt within in omega (arith, up)
  | inr same ↦ let e = ap (λ k. get_or xs k 0) same in omega (arith, e)
]
  where
    cases : (i j : ℕ) → i ≤ j → (i < j) ⊎ (i ≡ j)
    cases i j h = grind arith

-- a successor, or none, is remembered: of no successor, of an entry that was found, and of one that wasn't
pub remember_none : (xs : List ℕ) (os : List (Option ℕ)) (e : ℕ) (o : Option ℕ) → length os ≡ length xs → is_none o ≡ true → os ≡ with_successor xs (Some e) o os
remember_none xs os e None len h = sym (none_remembered xs os e len)
remember_none xs os e (Some n) len h = absurd (both_ways false refl h)

pub remember_found : (xs : List ℕ) (os : List (Option ℕ)) (e i : ℕ) (o : Option ℕ) → Found xs os e i → is_none o ≡ false → set os i o ≡ with_successor xs (Some e) o os
remember_found xs os e i None f h = absurd (both_ways true h refl)
remember_found xs os e i (Some n) f h = sym (f.remembered n)

pub remember_missed : (xs : List ℕ) (os : List (Option ℕ)) (e i : ℕ) (o : Option ℕ) → Missed xs os e i → is_none o ≡ false → os ≡ with_successor xs (Some e) o os
remember_missed xs os e i None f h = absurd (both_ways true h refl)
remember_missed xs os e i (Some n) f h = sym (f.remembered n)
