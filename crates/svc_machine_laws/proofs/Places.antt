-- The places of units, and lists that are cut at a place.
use Rattle.std.proofs.Common.{ℕ, zero, suc, ◌≡◌, ◌≢◌, ◌==◌, ◌+◌, ◌<◌, Bool, true, false, cond, List, [], ◌∷◌, take, length, Option, Some, None, refl, sym, ap, ◌∙◌, subst, option_map, slice_get, unwrap_or, get_or, arith, suc-add, zero-add}
use Rattle.std.proofs.lemmas.List.{take_all}
use Rattle.std.proofs.lemmas.Option.{same_Some, none-some}
use Rattle.std.proofs.lemmas.Bool.{eqb-true, eq-eqb}
use borrow.Author.Tests.{both_ways}
use Rattle.svc_bus_laws.specs.ByRows.{edit}
use Rattle.svc_machine_laws.specs.Events.{place_in}
use Rattle.svc_machine_laws.proofs.EditedLists.{edit_same}

-- where no place is found, no place has the unit
pub not_found : (units : List ℕ) (u q : ℕ) → place_in units u ≡ None → q < length units → get_or units q 0 ≢ u
not_found [] u q h within = absurd (omega (arith, within))
not_found (x ∷ xs) u q h within = split (not_found xs u) (x == u) (place_in xs u) q refl refl h within
  where
    split : ((j : ℕ) → place_in xs u ≡ None → j < length xs → get_or xs j 0 ≢ u) → (b : Bool) (o : Option ℕ) (q : ℕ) → (x == u) ≡ b → place_in xs u ≡ o → cond b (Some 0) (option_map suc o) ≡ None → q < suc (length xs) → get_or (x ∷ xs) q 0 ≢ u
    split ih true o q e p h within = absurd (none-some 0 (sym h))
    split ih false (Some j) q e p h within = absurd (none-some (suc j) (sym h))
    split ih false None zero e p h within = λ same. both_ways (x == u) e (eq-eqb x u same)
    split ih false None (suc q) e p h within = ih q p (omega (arith, within))

-- the place that is found has the unit
pub found : (units : List ℕ) (u q : ℕ) → place_in units u ≡ Some q → slice_get units q ≡ Some u
found [] u q h = absurd (none-some q h)
found (x ∷ xs) u q h = split (found xs u) (x == u) (place_in xs u) q refl refl h
  where
    split : ((j : ℕ) → place_in xs u ≡ Some j → slice_get xs j ≡ Some u) → (b : Bool) (o : Option ℕ) (i : ℕ) → (x == u) ≡ b → place_in xs u ≡ o → cond b (Some 0) (option_map suc o) ≡ Some i → slice_get (x ∷ xs) i ≡ Some u
    split ih true o i e k h = let z : 0 ≡ i = same_Some 0 i h in subst (λ n. slice_get (x ∷ xs) n ≡ Some u) z (ap Some (eqb-true x u e))
    split ih false None i e k h = absurd (none-some i h)
    split ih false (Some j) i e k h = let z : suc j ≡ i = same_Some (suc j) i h in subst (λ n. slice_get (x ∷ xs) n ≡ Some u) z (ih j k)

-- a place with something is one of the list
pub within : {A : Type 0} (xs : List A) (q : ℕ) (x : A) → slice_get xs q ≡ Some x → q < length xs
within [] q x h = absurd (none-some x h)
within (y ∷ xs) zero x h = omega arith
within (y ∷ xs) (suc q) x h = let ih = within xs q x h in omega (arith, ih)

pub some_at : {A : Type 0} (xs : List A) (q : ℕ) → q < length xs → (x : A) × (slice_get xs q ≡ Some x)
some_at [] q h = absurd (omega (arith, h))
some_at (x ∷ xs) zero h = (x, refl)
some_at (x ∷ xs) (suc q) h = some_at xs q (omega (arith, h))

-- the tasks up to a victim
pub take_edit : {A : Type 0} (p : ℕ) (c : Option ℕ) (xs : List A) → p < length xs → take (unwrap_or (option_map (λ n. suc p + n) c) (length xs)) xs ≡ edit p (λ x. x) c xs
take_edit p None xs h = take_all (length xs) xs (omega arith) ∙ sym (edit_same p xs)
take_edit p (Some n) [] h = absurd (omega (arith, h))
take_edit {A} zero (Some n) (x ∷ xs) h = ap (λ k. take k (x ∷ xs)) (suc-add 0 n) ∙ ap (λ k. x ∷ take k xs) (zero-add n)
take_edit {A} (suc p) (Some n) (x ∷ xs) h =
    ap (λ k. take k (x ∷ xs)) (suc-add (suc p) n) ∙ ap {B = List A} (λ q. x ∷ q) (take_edit p (Some n) xs (omega (arith, h)))
