-- How the list of units changes, and that no unit comes to stand in it twice.
use Rattle.std.proofs.Common.{◌≡◌, ◌↔◌, Some, ◌⊎◌, ◌∙◌, sym, ap, subst, ℕ, zero, suc, ◌<◌, ◌≤◌, List, [], ◌∷◌, ◌++◌, length, get_or, take, inl, inr, arith, length-append}
use Rattle.std.specs.Prelude.{Contains, remove, slice_index_or}
use Rattle.std.proofs.lemmas.Bool.{cases_lt}
use Rattle.std.proofs.lemmas.List.{map-append, take-map, length-map, get_or-map, get_or-take, get_or_append_left}
use Rattle.std.proofs.lemmas.List.Elements.{Contains-get_or}
use Rattle.std.proofs.Math.Seq.{get_or-append_seam}
use Rattle.svc_base.specs.declared.ids.UnitId.{UnitId}
use Rattle.svc_order.specs.Order.{numbers, StandsOnce}

pub length-taken : {A : Type 0} → (k : ℕ) (xs : List A) → length (take k xs) ≤ length xs
length-taken zero xs = omega arith
length-taken (suc k) [] = omega arith
length-taken (suc k) (x ∷ xs) = omega (arith, length-taken k xs)

length-taken_most : {A : Type 0} → (k : ℕ) (xs : List A) → length (take k xs) ≤ k
length-taken_most zero xs = omega arith
length-taken_most (suc k) [] = omega arith
length-taken_most (suc k) (x ∷ xs) = omega (arith, length-taken_most k xs)

pub once-take : (k : ℕ) (xs : List ℕ) → StandsOnce xs → StandsOnce (take k xs)
once-take k xs before = record {
  once = λ p q here there same.
      let below = length-taken k xs in
      let most = length-taken_most k xs in
      let first : p < k = omega arith in
      let second : q < k = omega arith in
      before.once p q (omega arith) (omega arith) (sym (get_or-take k xs p 0 first) ∙ same ∙ get_or-take k xs q 0 second);
}

pub once-tail : (x : ℕ) (xs : List ℕ) → StandsOnce (x ∷ xs) → StandsOnce xs
once-tail x xs before = record {
  once = λ p q here there same.
      let next : suc p ≡ suc q = before.once (suc p) (suc q) (omega (arith, here)) (omega (arith, there)) same in
      omega arith;
}

-- an item of the longer list stands in the shorter one, or is the new one
item_of : (xs : List ℕ) (n p : ℕ) → p < length (xs ++ n ∷ []) → ((p < length xs) × (get_or (xs ++ n ∷ []) p 0 ≡ get_or xs p 0)) ⊎ ((p ≡ length xs) × (get_or (xs ++ n ∷ []) p 0 ≡ n))
item_of xs n p here = elim (cases_lt p (length xs)) [
  | inl below ↦ inl (below, get_or_append_left xs (n ∷ []) 0 p below)
  | inr above ↦
      let last : p ≡ length xs = omega (arith, length-append xs (n ∷ [])) in
      inr (last, ap (λ i. get_or (xs ++ n ∷ []) i 0) last ∙ get_or-append_seam xs n [] 0)
]

-- the new number is not among the old ones
not_old : (xs : List ℕ) (n p : ℕ) → (Contains xs n → ⊥) → p < length xs → get_or xs p 0 ≡ n → ⊥
not_old xs n p fresh here same = fresh (subst (Contains xs) same (Contains-get_or xs p 0 here))

pub once-append : (xs : List ℕ) (n : ℕ) → (Contains xs n → ⊥) → StandsOnce xs → StandsOnce (xs ++ n ∷ [])
once-append xs n fresh before = record {
  once = λ p q here there same. go p q same (item_of xs n p here) (item_of xs n q there);
}
  where
    go : (p q : ℕ) → get_or (xs ++ n ∷ []) p 0 ≡ get_or (xs ++ n ∷ []) q 0 → ((p < length xs) × (get_or (xs ++ n ∷ []) p 0 ≡ get_or xs p 0)) ⊎ ((p ≡ length xs) × (get_or (xs ++ n ∷ []) p 0 ≡ n)) → ((q < length xs) × (get_or (xs ++ n ∷ []) q 0 ≡ get_or xs q 0)) ⊎ ((q ≡ length xs) × (get_or (xs ++ n ∷ []) q 0 ≡ n)) → p ≡ q
    go p q same (inl (here, old)) (inl (there, other)) = before.once p q here there (sym old ∙ same ∙ other)
    go p q same (inl (here, old)) (inr (last, new)) = absurd (not_old xs n p fresh here (sym old ∙ same ∙ new))
    go p q same (inr (last, new)) (inl (there, other)) = absurd (not_old xs n q fresh there (sym other ∙ sym same ∙ new))
    go p q same (inr (last, new)) (inr (end, also)) = last ∙ sym end

-- the same, for the units themselves
pub length-numbers : (units : List UnitId) → length (numbers units) ≡ length units
length-numbers units = length-map units (λ (u : UnitId). u.0)

-- the number at a place, by the units as they are read
pub get_or-read : (units read : List UnitId) (p : ℕ) → read ≡ units → p < length units → get_or (numbers units) p 0 ≡ (get_or read p (record { 0 = 0 })).0
get_or-read units read p same here = get_or-map (λ (u : UnitId). u.0) units p (record { 0 = 0 }) 0 here ∙ ap (λ (us : List UnitId). (get_or us p (record { 0 = 0 })).0) (sym same)

-- of a list without doubles, the place where a number was found is its only one
pub only_place : (numbers : List ℕ) (place n : ℕ) → StandsOnce numbers → place < length numbers → get_or numbers place 0 ≡ n → (p : ℕ) → (Some place ≡ Some p) ↔ ((p < length numbers) × (get_or numbers p 0 ≡ n))
only_place numbers place n once here found p = (
  λ same. let e : place ≡ p = cc in subst (λ q. (q < length numbers) × (get_or numbers q 0 ≡ n)) e (here, found),
  λ there. ap Some (once.once place p here there.0 (found ∙ sym there.1)),
)

pub numbers-push : (units next : List UnitId) (unit : UnitId) → next ≡ units ++ unit ∷ [] → numbers next ≡ numbers units ++ unit.0 ∷ []
numbers-push units next unit pushed = ap numbers pushed ∙ map-append (λ (u : UnitId). u.0) units (unit ∷ [])

pub numbers-cut : (units next : List UnitId) (k : ℕ) → next ≡ take k units → numbers next ≡ take k (numbers units)
numbers-cut units next k cut = ap numbers cut ∙ sym (take-map (λ (u : UnitId). u.0) k units)

pub numbers-pop : (units next : List UnitId) (head : UnitId) → 0 < length units → head ≡ slice_index_or units 0 head → next ≡ remove units 0 → numbers units ≡ head.0 ∷ numbers next
numbers-pop [] next head some first rest = absurd (omega (arith, some))
numbers-pop (unit ∷ units) next head some first rest = λ i. (sym first i).0 ∷ numbers (sym rest i)
