-- A list of all units is a renaming.
use Rattle.std.proofs.Common.{◌≡◌, ◌≢◌, refl, sym, ap, ◌∙◌, subst, ℕ, zero, suc, ◌<◌, ◌≤◌, Bool, true, false, ◌||◌, List, [], ◌∷◌, length, get_or, Option, Some, None, inl, inr, arith, true≢false, slice_get, unwrap_or, ne_eqb}
use Rattle.std.specs.Bool.{◌==◌}
use Rattle.std.specs.List.{list_any}
use Rattle.std.proofs.lemmas.Bool.{cases_Bool, eqb-true, leb-true, leb-false}
use Rattle.std.proofs.lemmas.List.{get_or_default}
use Rattle.std.proofs.lemmas.Option.{slice_get_past, slice_get-get_or, get_or_from_slice_get}
use Rattle.std.proofs.lemmas.Map.Keys.{IsDistinct-from_apart}
use Rattle.std.proofs.lemmas.Map.Steps.{length-le_from_distinct_below}
use Rattle.svc_machine_laws.specs.Events.{place_in}
use Rattle.svc_machine_laws.proofs.Places.{not_found, found, within}
use Rattle.svc_renaming_laws.specs.Renamings.{IsRenaming}
use Rattle.svc_renaming_laws.specs.Orders.{IsOrder, by_order}

-- what holds of the number at each place holds of each number in the list
below_all : (xs : List ℕ) (n q : ℕ) → ((p : ℕ) → p < length xs → get_or xs p 0 < n) → list_any (λ x. q == x) xs ≡ true → q < n
below_all [] n q known e = absurd (true≢false (sym e))
below_all (x ∷ xs) n q known e = elim (cases_Bool (q == x)) [
  | inl is ↦ subst (λ y. y < n) (sym (eqb-true q x is)) (known 0 (omega arith))
  | inr not ↦ below_all xs n q (λ p h. known (suc p) (omega (arith, h))) (subst (λ b. (b || list_any (λ y. q == y) xs) ≡ true) not e)
]

module _ (n : ℕ) (us : List ℕ) (order : IsOrder n us) where
  known : (p : ℕ) → p < length us → get_or us p 0 < n
  known p h = let e = order.count in order.known p (omega (arith, h, e))

  -- a unit that isn't in the list would be one too many
  apart : (u : ℕ) → ((p : ℕ) → p < length us → get_or us p 0 ≢ u) → (i j d : ℕ) → i < j → j < length (u ∷ us) → (get_or (u ∷ us) i d == get_or (u ∷ us) j d) ≡ false
  apart u none i zero d h k = absurd (omega (arith, h))
  apart u none zero (suc j) d h k =
      let inside : j < length us = omega (arith, k) in
      ne_eqb u (get_or us j d) (λ e. none j inside (get_or_default us j 0 d inside ∙ sym e))
  apart u none (suc i) (suc j) d h k =
      let inside : j < length us = omega (arith, k) in
      let below : i < length us = omega (arith, h, k) in
      ne_eqb (get_or us i d) (get_or us j d) (λ e.
      let count = order.count in
      let same : i ≡ j = order.distinct i j (omega (arith, below, count)) (omega (arith, inside, count)) (get_or_default us i 0 d below ∙ e ∙ get_or_default us j d 0 inside) in
      omega (arith, h, same))

  all_in : (u : ℕ) → u < n → ((p : ℕ) → p < length us → get_or us p 0 ≢ u) → ⊥
  all_in u h none =
      let few : length (u ∷ us) ≤ n = length-le_from_distinct_below (u ∷ us) n (IsDistinct-from_apart (λ x y. x == y) (u ∷ us) (apart u none)) (λ q. below_all (u ∷ us) n q inside) in
      let e = order.count in
      omega (arith, few, e)
    where
      inside : (p : ℕ) → p < length (u ∷ us) → get_or (u ∷ us) p 0 < n
      inside zero k = h
      inside (suc p) k = known p (omega (arith, k))

  -- a unit that is found
  at_place : (u p : ℕ) → place_in us u ≡ Some p → (p < length us) × (get_or us p 0 ≡ u)
  at_place u p e = let at = found us u p e in (within us p u at, get_or_from_slice_get us p u 0 at)

  returns_at : (u : ℕ) (o : Option ℕ) → place_in us u ≡ o → unwrap_or (slice_get us (unwrap_or o u)) (unwrap_or o u) ≡ u
  returns_at u (Some p) e = ap (λ o. unwrap_or o p) (found us u p e)
  returns_at u None e = elim (cases_Bool (Rattle.std.proofs.Common.leb n u)) [
    | inl above ↦
        let h : length us ≤ u = let k = leb-true n u above in let c = order.count in omega (arith, k, c) in
        ap (λ o. unwrap_or o u) (slice_get_past us u h)
    | inr below ↦ absurd (all_in u (leb-false n u below) (λ q. not_found us u q e))
  ]

  reaches_at : (p : ℕ) → unwrap_or (place_in us (unwrap_or (slice_get us p) p)) (unwrap_or (slice_get us p) p) ≡ p
  reaches_at p = elim (cases_Bool (Rattle.std.proofs.Common.leb n p)) [
    | inl above ↦
        let h : length us ≤ p = let k = leb-true n p above in let c = order.count in omega (arith, k, c) in
        ap (λ o. unwrap_or (place_in us (unwrap_or o p)) (unwrap_or o p)) (slice_get_past us p h) ∙ far (leb-true n p above) (place_in us p) refl
    | inr below ↦
        let h : p < length us = let k = leb-false n p below in let c = order.count in omega (arith, k, c) in
        ap (λ o. unwrap_or (place_in us (unwrap_or o p)) (unwrap_or o p)) (slice_get-get_or us p 0 h) ∙ near h (place_in us (get_or us p 0)) refl
  ]
    where
      far : n ≤ p → (o : Option ℕ) → place_in us p ≡ o → unwrap_or o p ≡ p
      far h None e = refl
      far h (Some q) e = let at = at_place p q e in let k = known q at.0 in let f = at.1 in absurd (omega (arith, h, k, f))

      near : p < length us → (o : Option ℕ) → place_in us (get_or us p 0) ≡ o → unwrap_or o (get_or us p 0) ≡ p
      near h None e = absurd (not_found us (get_or us p 0) p e h refl)
      near h (Some q) e =
          let at = at_place (get_or us p 0) q e in
          let c = order.count in
          let inside = at.0 in
          order.distinct q p (omega (arith, inside, c)) (omega (arith, h, c)) at.1

  known_at : (u : ℕ) → u < n → (o : Option ℕ) → place_in us u ≡ o → unwrap_or o u < n
  known_at u h None e = h
  known_at u h (Some p) e = let at = (at_place u p e).0 in let c = order.count in omega (arith, at, c)

  back_at : (p : ℕ) → p < n → unwrap_or (slice_get us p) p < n
  back_at p h =
      let inside : p < length us = let c = order.count in omega (arith, h, c) in
      subst (λ o. unwrap_or o p < n) (sym (slice_get-get_or us p 0 inside)) (order.known p h)

  pub orders_rename : IsRenaming n (by_order us)
  orders_rename = record { returns = λ u. returns_at u (place_in us u) refl; reaches = reaches_at; known = λ u h. known_at u h (place_in us u) refl; known_back = back_at }
