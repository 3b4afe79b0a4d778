-- The indices of the active tasks' entries, beside them.
use Rattle.std.proofs.Common.{ℕ, zero, suc, ◌≡◌, ◌-◌, ◌<◌, ◌≤◌, ◌+◌, ◌⊎◌, inl, inr, List, [], ◌∷◌, ◌++◌, length, remove, take, Option, Some, None, refl, sym, ap, ◌∙◌, subst, get_or, arith}
use Rattle.std.specs.List.Sorted.{IsStrictlyIncreasing}
use Rattle.std.proofs.lemmas.Option.{none-some, same_Some}
use Rattle.svc_machine_laws.specs.Guess.{youngest}
use Rattle.svc_sequencer.specs.Tables.{AreIndices, IsIndex}
use Rattle.svc_sequencer.proofs.Searched.{Missed, missed, rising_below, rising_order}

-- where a search finds the entry, and where it doesn't
pub place_found : (xs : List ℕ) → IsStrictlyIncreasing xs → (e i : ℕ) → i < length xs → get_or xs i 0 ≡ e → IsIndex xs e i
place_found xs rise e i inside at = record {
  before = λ k h. let up = rising_below xs rise i k h inside in omega (arith, up, at);
  after = λ k h within. let up = rising_order xs rise i k h within in omega (arith, up, at);
}

pub place_missed : (xs : List ℕ) (e i : ℕ) → ((k : ℕ) → k < i → get_or xs k 0 < e) → ((k : ℕ) → i ≤ k → k < length xs → e < get_or xs k 0) → IsIndex xs e i
place_missed xs e i low high = record {
  before = low;
  after = λ k h within. let up = high k h within in omega (arith, up);
}

-- an entry that doesn't stand at its index stands nowhere
pub stands_nowhere : (xs : List ℕ) (os : List (Option ℕ)) (e i : ℕ) → IsStrictlyIncreasing xs → length os ≡ length xs → IsIndex xs e i
    → ((i < length xs) × (get_or xs i 0 ≡ e) → ⊥) → Missed xs os e i
stands_nowhere xs os e i rise len index apart = missed xs os e i len index.before above
  where
    cases : (x y : ℕ) → x ≤ y → (x ≡ y) ⊎ (x < y)
    cases x y h = grind arith

    above : (k : ℕ) → i ≤ k → k < length xs → e < get_or xs k 0
    above k h within = elim (cases e (get_or xs k 0) (index.after k h within)) [
      | inr up ↦ up
      | inl same ↦ elim (cases i k h) [
        | inl here ↦ absurd (apart (omega (arith, here, within), ap (λ (j : ℕ). get_or xs j 0) here ∙ sym same))
        | inr past ↦
            let up = rising_below xs rise k i past within in
            let low = index.after i (omega arith) (omega (arith, past, within)) in
            absurd (omega (arith, up, low, same))
      ]
    ]

pub as_long : (xs es ps : List ℕ) → AreIndices xs es ps → length ps ≡ length es
as_long xs [] [] h = refl
as_long xs [] (p ∷ ps) h = absurd h
as_long xs (e ∷ es) [] h = absurd h
as_long xs (e ∷ es) (p ∷ ps) h = ap suc (as_long xs es ps h.1)

-- a task more
pub index_more : (xs es ps : List ℕ) (e p : ℕ) → AreIndices xs es ps → IsIndex xs e p → AreIndices xs (es ++ e ∷ []) (ps ++ p ∷ [])
index_more xs [] [] e p h at = (at, tt)
index_more xs [] (q ∷ ps) e p h at = absurd h
index_more xs (d ∷ es) [] e p h at = absurd h
index_more xs (d ∷ es) (q ∷ ps) e p h at = (h.0, index_more xs es ps e p h.1 at)

-- without the oldest
pub places_after : (xs es ps : List ℕ) → AreIndices xs es ps → AreIndices xs (remove es 0) (remove ps 0)
places_after xs [] [] h = tt
places_after xs [] (p ∷ ps) h = absurd h
places_after xs (e ∷ es) [] h = absurd h
places_after xs (e ∷ es) (p ∷ ps) h = h.1

-- the first n of them
pub places_of_first : (n : ℕ) (xs es ps : List ℕ) → AreIndices xs es ps → AreIndices xs (take n es) (take n ps)
places_of_first zero xs es ps h = tt
places_of_first (suc n) xs [] [] h = tt
places_of_first (suc n) xs [] (p ∷ ps) h = absurd h
places_of_first (suc n) xs (e ∷ es) [] h = absurd h
places_of_first (suc n) xs (e ∷ es) (p ∷ ps) h = (h.0, places_of_first n xs es ps h.1)

-- the last index is the youngest's
pub place_of_youngest : (xs es ps : List ℕ) (e : ℕ) → AreIndices xs es ps → youngest es ≡ Some e → IsIndex xs e (get_or ps (length es - 1) 0)
place_of_youngest xs [] ps e h is = absurd (none-some e is)
place_of_youngest xs (d ∷ es) [] e h is = absurd h
place_of_youngest xs (d ∷ []) (p ∷ ps) e h is = subst (λ (x : ℕ). IsIndex xs x p) (same_Some d e is) h.0
place_of_youngest xs (d ∷ f ∷ es) (p ∷ ps) e h is =
    let next : length (d ∷ f ∷ es) - 1 ≡ suc (length (f ∷ es) - 1) = omega arith in
    subst (IsIndex xs e) (sym (ap (λ (k : ℕ). get_or (p ∷ ps) k 0) next)) (place_of_youngest xs (f ∷ es) ps e h.1 is)

pub some_active : (es : List ℕ) (e : ℕ) → youngest es ≡ Some e → 0 < length es
some_active [] e is = absurd (none-some e is)
some_active (d ∷ es) e is = omega arith
