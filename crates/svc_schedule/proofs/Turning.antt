-- The orders of the policies, a unit more at a time.
use Rattle.std.proofs.Common.{ℕ, suc, ◌≡◌, ◌≤◌, ◌+◌, ◌%◌, Bool, true, false, map, List, [], ◌∷◌, ◌++◌, length, take, drop, sym, ap, ◌∙◌, arith}
use Rattle.std.specs.Prelude.{nat_le, if◌then◌else◌}
use Rattle.std.specs.List.{insert}
use Rattle.std.proofs.lemmas.List.{map-append, take-map, drop-map}
use Rattle.svc_base.specs.declared.ids.UnitId.{UnitId}
use Rattle.svc_schedule.specs.Orders.{around_by, by_rank, place_among}

pub around_more : (first units n : ℕ) → around_by first units (n + 1) ≡ around_by first units n ++ record { 0 = (first + n) % units } ∷ []
around_more first units n = let next : n + 1 ≡ suc n = omega arith in ap (around_by first units) next

pub by_rank_more : (rank : ℕ → ℕ) (n : ℕ) → by_rank rank (n + 1) ≡ insert (by_rank rank n) (place_among (map (λ u. rank u.0) (by_rank rank n)) (rank n)) (record { 0 = n })
by_rank_more rank n = let next : n + 1 ≡ suc n = omega arith in ap (by_rank rank) next

pub map-insert : {X Y : Type 0} (f : X → Y) (xs : List X) (i : ℕ) (x : X) → map f (insert xs i x) ≡ insert (map f xs) i (f x)
map-insert f xs i x =
    map-append f (take i xs) (x ∷ drop i xs)
    ∙ (ap (λ l. l ++ f x ∷ map f (drop i xs)) (sym (take-map f i xs)) ∙ ap (λ l. take i (map f xs) ++ f x ∷ l) (sym (drop-map f i xs)))

within_more : (x : Bool) (n len : ℕ) → n ≤ len → (if x then suc n else 0) ≤ suc len
within_more true n len h = omega (arith, h)
within_more false n len h = omega arith

pub place_within : (ranks : List ℕ) (rank : ℕ) → place_among ranks rank ≤ length ranks
place_within [] rank = omega arith
place_within (r ∷ ranks) rank = within_more (nat_le r rank) (place_among ranks rank) (length ranks) (place_within ranks rank)

-- one unit more is put in
pub by_rank_next : (rank : ℕ → ℕ) (n : ℕ) (order new : List UnitId) (ranks : List ℕ) (place r : ℕ) (unit : UnitId)
    → new ≡ insert order place unit → place ≡ place_among ranks r → r ≡ rank n → unit ≡ record { 0 = n } → order ≡ by_rank rank n → ranks ≡ map (λ u. rank u.0) order → new ≡ by_rank rank (n + 1)
by_rank_next rank n order new ranks place r unit put place_is r_is unit_is order_is ranks_is =
    let f : UnitId → ℕ = λ u. rank u.0 in
    let last : UnitId = record { 0 = n } in
    put
    ∙ (ap (λ p. insert order p unit) place_is
    ∙ (ap (λ l. insert order (place_among l r) unit) ranks_is
    ∙ (ap (λ k. insert order (place_among (map f order) k) unit) r_is
    ∙ (ap (λ u. insert order (place_among (map f order) (rank n)) u) unit_is
    ∙ (ap (λ o. insert o (place_among (map f o) (rank n)) last) order_is ∙ sym (by_rank_more rank n))))))

pub ranks_next : (rank : ℕ → ℕ) (order new : List UnitId) (ranks news : List ℕ) (place r : ℕ) (unit : UnitId)
    → new ≡ insert order place unit → news ≡ insert ranks place r → r ≡ rank unit.0 → ranks ≡ map (λ u. rank u.0) order → news ≡ map (λ u. rank u.0) new
ranks_next rank order new ranks news place r unit put put_rank r_is ranks_is =
    let f : UnitId → ℕ = λ u. rank u.0 in
    put_rank
    ∙ (ap (λ l. insert l place r) ranks_is
    ∙ (ap (λ k. insert (map f order) place k) r_is
    ∙ (sym (map-insert f order place unit) ∙ ap (map f) (sym put))))
