-- Orders of all units, which grow by one unit, and in which two units change places.
use Rattle.std.proofs.Common.{ℕ, ◌≡◌, ◌⊎◌, ◌+◌, ◌<◌, List, [], ◌∷◌, ◌++◌, length, get_or, swap, inl, inr, refl, sym, ap, ◌∙◌, subst, arith, length-append}
use Rattle.std.proofs.Math.Seq.{get_or-append_seam}
use Rattle.std.proofs.lemmas.List.{get_or-map, get_or_append_left, length-map}
use Rattle.std.proofs.lemmas.List.Edits.{length-swap}
use Rattle.indexmap.proofs.ReorderLemmas.{exchange, exchange-twice, exchange-within, get_or-swap}
use Rattle.svc_base.specs.declared.ids.UnitId.{UnitId}
use Rattle.svc_observations.specs.Rosters.{unit_numbers}
use Rattle.svc_observations.proofs.Rosters.{units_append}
use Rattle.svc_renaming_laws.specs.Orders.{IsOrder}
use Rattle.svc_explore.specs.UnitOrders.{KeepsOrders}
use Rattle.svc_explore.proofs.Growing.{below_more}

pub no_order : IsOrder 0 []
no_order = record { count = refl; known = λ p h. absurd (omega (arith, h)); distinct = λ p q h. absurd (omega (arith, h)) }

-- one unit more
module _ (n : ℕ) (us : List ℕ) (order : IsOrder n us) where
  abbrev more : List ℕ
  more = us ++ n ∷ []

  low : (p : ℕ) → p < n → get_or more p 0 ≡ get_or us p 0
  low p h = let c = order.count in get_or_append_left us (n ∷ []) 0 p (omega (arith, h, c))

  high : (p : ℕ) → p ≡ n → get_or more p 0 ≡ n
  high p e = ap (λ k. get_or more k 0) (e ∙ sym order.count) ∙ get_or-append_seam us n [] 0

  known : (p : ℕ) → (p < n) ⊎ (p ≡ n) → get_or more p 0 < n + 1
  known p (inl h) = let e = low p h in let k = order.known p h in omega (arith, e, k)
  known p (inr e) = let is = high p e in omega (arith, is)

  apart : (p q : ℕ) → (p < n) ⊎ (p ≡ n) → (q < n) ⊎ (q ≡ n) → get_or more p 0 ≡ get_or more q 0 → p ≡ q
  apart p q (inl h) (inl k) e = order.distinct p q h k (sym (low p h) ∙ e ∙ low q k)
  apart p q (inl h) (inr k) e = let a = low p h in let b = high q k in let c = order.known p h in absurd (omega (arith, a, b, c, e))
  apart p q (inr h) (inl k) e = let a = high p h in let b = low q k in let c = order.known q k in absurd (omega (arith, a, b, c, e))
  apart p q (inr h) (inr k) e = h ∙ sym k

  pub order_more : IsOrder (n + 1) more
  order_more = record {
    count = let c = order.count in let e = length-append us (n ∷ []) in omega (arith, c, e);
    known = λ p h. known p (below_more p n h);
    distinct = λ p q h k e. apart p q (below_more p n h) (below_more q n k) e;
  }

-- a list of units that has one more at its end
pub pushed : (n : ℕ) (us vs : List UnitId) (u : UnitId) → u.0 ≡ n → vs ≡ us ++ u ∷ [] → IsOrder n (unit_numbers us) → IsOrder (n + 1) (unit_numbers vs)
pushed n us vs u e f order =
    subst (IsOrder (n + 1)) (sym (ap unit_numbers f ∙ units_append us (u ∷ []) ∙ ap (λ (k : ℕ). unit_numbers us ++ k ∷ []) e)) (order_more n (unit_numbers us) order)

-- two units that change places
module _ (us : List UnitId) (a b : ℕ) (inside : a < length us) (within : b < length us) where
  abbrev other : List UnitId
  other = swap us a b

  read : (d : UnitId) (p : ℕ) → p < length us → get_or (unit_numbers other) p 0 ≡ get_or (unit_numbers us) (exchange a b p) 0
  read d p h =
      let l = length-swap us a b in
      get_or-map (λ (u : UnitId). u.0) other p d 0 (omega (arith, h, l))
      ∙ ap (λ (u : UnitId). u.0) (get_or-swap us a b d inside within p)
      ∙ sym (get_or-map (λ (u : UnitId). u.0) us (exchange a b p) d 0 (exchange-within a b (length us) p inside within h))

  pub swapped : (n : ℕ) → IsOrder n (unit_numbers us) → IsOrder n (unit_numbers other)
  swapped n order =
      let d : UnitId = record { 0 = 0 } in
      let count : length us ≡ n = sym (length-map us (λ (u : UnitId). u.0)) ∙ order.count in
      let long : (p : ℕ) → p < n → p < length us = λ p h. omega (arith, h, count) in
      let there : (p : ℕ) → p < n → exchange a b p < n = λ p h. let k = exchange-within a b (length us) p inside within (long p h) in omega (arith, k, count) in
      record {
        count = length-map other (λ (u : UnitId). u.0) ∙ length-swap us a b ∙ count;
        known = λ p h. subst (λ u. u < n) (sym (read d p (long p h))) (order.known (exchange a b p) (there p h));
        distinct = λ p q h k e.
            let same = order.distinct (exchange a b p) (exchange a b q) (there p h) (there q k) (sym (read d p (long p h)) ∙ e ∙ read d q (long q k)) in
            sym (exchange-twice a b p) ∙ ap (exchange a b) same ∙ exchange-twice a b q;
      }

pub exchanged : (us vs : List UnitId) (a b : ℕ) → a < length us → b < length us → vs ≡ swap us a b → KeepsOrders us vs
exchanged us vs a b inside within e = subst (KeepsOrders us) (sym e) (swapped us a b inside within)

pub keeps_both : (us vs ws : List UnitId) → KeepsOrders us vs → KeepsOrders vs ws → KeepsOrders us ws
keeps_both us vs ws first then n order = then n (first n order)
