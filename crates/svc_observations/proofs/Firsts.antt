-- What stays of a sorted list of sightings, where of those that show the same only the first does.
use Rattle.std.proofs.Common.{ℕ, zero, suc, ◌≡◌, ◌≤◌, ◌<◌, ◌+◌, Bool, true, false, true≢false, cond, List, [], ◌∷◌, ◌++◌, length, map, Some, refl, sym, ap, ◌∙◌, subst, arith, slice_get, get_or, nat_lt, ◌==◌, IsPermutation}
use Rattle.std.specs.List.{AllByRecursion, Contains, dedup, dedup_from}
use Rattle.std.specs.List.Sorted.{IsSorted, IsSortedByKey, IsStrictlySortedBy}
use Rattle.std.specs.Cmp.{IsTotalOrder}
use Rattle.std.specs.Cmp.Lexicographic.{slice_cmp, on_texts}
use Rattle.std.specs.declared.cmp.Ordering.{Ordering}
use Rattle.std.specs.declared.cmp.Ordering.TheVariants.{Less, Equal, Greater}
use Rattle.std.specs.Ordering.{eq_by_cmp, is_eq, is_lt, nat_cmp, ordering_then}
use Rattle.std.proofs.lemmas.Bool.{cond_both, ltb-false}
use Rattle.std.proofs.lemmas.Cmp.{eq_by_cmp_equiv, nat_list_cmp_total}
use Rattle.std.proofs.lemmas.Map.Text.{is_eq-slice_cmp}
use Rattle.std.specs.Cmp.{IsEquivalence}
use Rattle.std.proofs.lemmas.List.Kept.{Any-dedup, Contains-from_dedup, IsStrictlySortedBy-dedup}
use Rattle.std.proofs.lemmas.List.Sorted.{Contains-permutation, IsPermutation-sym, ranks_by, sorted_far}
use Rattle.std.proofs.lemmas.Option.{get_or_from_slice_get, none-some, same_Some, slice_get_read, slice_get_within}
use Rattle.svc_base.specs.declared.config.Config.{Config}
use Rattle.svc_image.specs.Image.{Image}
use Rattle.svc_machine_laws.specs.Standing.{opened_at}
use Rattle.svc_history_laws.specs.declared.entry.Entry.{Entry}
use Rattle.svc_explore_laws.specs.declared.observation.Observation.{Observation}
use Rattle.svc_explore_laws.specs.Closed.{IsIn}
use Rattle.svc_observations.specs.declared.trace.Sighting.{Sighting}
use Rattle.svc_observations.specs.Order.{places_of}
use Rattle.svc_observations.specs.Sightings.{AreSightings, IsFirstSeen, IsSeenAt, all_sighted, by_place, is_same_place, seen_in, sorting_key}
use Rattle.svc_observations.proofs.Listing.{is_listed, listed_is_seen}
use Rattle.svc_observations.proofs.Ordering.{ends_compare, same_place}

abbrev places : Sighting → List ℕ
places s = places_of s.what

abbrev pub total : IsTotalOrder by_place
total = on_texts (λ (s : Sighting). places_of s.what)

ties : (s t : Sighting) → is_same_place s t ≡ eq_by_cmp by_place s t
ties s t = sym (is_eq-slice_cmp (places s) (places t))

-- ---- two sightings, one of which stands before the other

-- the second doesn't come before the first
abbrev Rises : Sighting → Sighting → Type 0
Rises s t = is_lt (slice_cmp nat_cmp (sorting_key t) (sorting_key s)) ≡ false

compared : (s t : Sighting) → slice_cmp nat_cmp (sorting_key t) (sorting_key s) ≡ ordering_then (by_place t s) (ordering_then (nat_cmp t.entry s.entry) Equal)
compared s t = ends_compare (places_of t.what) (places_of s.what) t.entry s.entry refl

first_rises : (a b : Ordering) → is_lt (ordering_then a b) ≡ false → is_lt a ≡ false
first_rises Less b h = h
first_rises Equal b h = refl
first_rises Greater b h = refl

second_rises : (a b : Ordering) → is_lt (ordering_then a b) ≡ false → is_eq a ≡ true → is_lt b ≡ false
second_rises Less b h e = absurd (true≢false (sym e))
second_rises Equal b h e = h
second_rises Greater b h e = absurd (true≢false (sym e))

by_place_rises : (s t : Sighting) → Rises s t → is_lt (by_place t s) ≡ false
by_place_rises s t h = first_rises _ _ (sym (ap is_lt (compared s t)) ∙ h)

not_less : (a b : ℕ) → is_lt (nat_cmp a b) ≡ false → b ≤ a
not_less a b = by (nat_lt a b) refl
  where
    by : (q : Bool) → nat_lt a b ≡ q → is_lt (cond q Less (cond (a == b) Equal Greater)) ≡ false → b ≤ a
    by true e h = absurd (true≢false h)
    by false e h = ltb-false a b e

entries_rise : (s t : Sighting) → Rises s t → is_eq (by_place t s) ≡ true → s.entry ≤ t.entry
entries_rise s t h e =
    let second = second_rises _ _ (sym (ap is_lt (compared s t)) ∙ h) e in
    let numbers : is_lt (nat_cmp t.entry s.entry) ≡ false = first_rises _ _ second in
    not_less t.entry s.entry numbers

equal_at : (s : Sighting) → is_eq (by_place s s) ≡ true
equal_at s = (eq_by_cmp_equiv total).refl s

same_shown : (s t : Sighting) → s.what ≡ t.what → is_eq (by_place t s) ≡ true
same_shown s t h = subst (λ (o : Observation). is_eq (slice_cmp nat_cmp (places_of t.what) (places_of o)) ≡ true) (sym h) (equal_at t)

-- ---- the first of those that show the same

abbrev Above : Sighting → List Sighting → Type 0
Above s ts = AllByRecursion (Rises s) ts

-- each rises to all after it
Up : List Sighting → Type 0
Up [] = Unit {0}
Up (s ∷ ts) = Above s ts × Up ts

-- no sighting of the list shows the same by an earlier entry
abbrev IsLeast : List Sighting → Sighting → Type 0
IsLeast ss t = AllByRecursion (λ (s : Sighting). t.what ≡ s.what → t.entry ≤ s.entry) ss

least_above : (k : Sighting) (ts : List Sighting) → Above k ts → IsLeast ts k
least_above k [] h = tt
least_above k (t ∷ ts) h = (λ same. entries_rise k t h.0 (same_shown k t same), least_above k ts h.1)

-- what is dropped shows what the last one that was kept shows
dropped : (k x : Sighting) (xs : List Sighting) → Rises k x → is_same_place x k ≡ true → (y : Sighting) → IsLeast (k ∷ xs) y → IsLeast (k ∷ x ∷ xs) y
dropped k x xs up same y least =
    let there : is_eq (by_place x k) ≡ true = sym (ties x k) ∙ same in
    let shown : x.what ≡ k.what = same_place x.what k.what there in
    let up : k.entry ≤ x.entry = entries_rise k x up there in
    (least.0, ((λ e. let low : y.entry ≤ k.entry = least.0 (e ∙ shown) in omega (arith, low, up)), least.1))

-- what is kept after it shows something else
apart : (k y : Sighting) → by_place k y ≡ Less → y.what ≡ k.what → ⊥
apart k y less same = true≢false (sym (same_shown y k same) ∙ ap is_eq less)

all_map : (P Q : Sighting → Type 0) (ys : List Sighting) → ((y : Sighting) → P y → Q y) → AllByRecursion P ys → AllByRecursion Q ys
all_map P Q [] f h = tt
all_map P Q (y ∷ ys) f h = (f y h.0, all_map P Q ys f h.1)

all_both : (P Q : Sighting → Type 0) (ys : List Sighting) → AllByRecursion P ys → AllByRecursion Q ys → AllByRecursion (λ y. P y × Q y) ys
all_both P Q [] h g = tt
all_both P Q (y ∷ ys) h g = ((h.0, g.0), all_both P Q ys h.1 g.1)

abbrev LeastKept : (xs : List Sighting) (k : Sighting) → Type 0
LeastKept xs k = IsStrictlySortedBy by_place (dedup_from is_same_place k xs) → AllByRecursion (IsLeast (k ∷ xs)) (dedup_from is_same_place k xs)

-- what is kept of k, x and more, where x shows the same as k, or doesn't
abbrev kept_by : (k x : Sighting) (xs : List Sighting) → Bool → List Sighting
kept_by k x xs same = cond same (dedup_from is_same_place k xs) (k ∷ dedup_from is_same_place x xs)

least_kept : (xs : List Sighting) (k : Sighting) → Above k xs → Up xs → LeastKept xs k
unfolding IsStrictlySortedBy Up
least_kept [] k above up = λ strict. (((λ e. omega arith), tt), tt)
least_kept (x ∷ xs) k above up = split (least_kept xs k above.1 up.1) (least_kept xs x up.0 up.1) (is_same_place x k) refl
  where
    split : LeastKept xs k → LeastKept xs x → (b : Bool) → is_same_place x k ≡ b → IsStrictlySortedBy by_place (kept_by k x xs b) → AllByRecursion (IsLeast (k ∷ x ∷ xs)) (kept_by k x xs b)
    split by_k by_x true same strict =
        all_map (IsLeast (k ∷ xs)) (IsLeast (k ∷ x ∷ xs)) (dedup_from is_same_place k xs) (dropped k x xs above.0 same) (by_k strict)
    split by_k by_x false other strict =
        let kept = dedup_from is_same_place x xs in (
          ((λ e. omega arith), least_above k (x ∷ xs) above),
          all_map (λ y. (by_place k y ≡ Less) × IsLeast (x ∷ xs) y) (IsLeast (k ∷ x ∷ xs)) kept (λ y h. ((λ e. absurd (apart k y h.0 e)), h.1))
              (all_both (λ y. by_place k y ≡ Less) (IsLeast (x ∷ xs)) kept strict.0 (by_x strict.1)),
        )

least : (xs : List Sighting) → Up xs → IsStrictlySortedBy by_place (dedup is_same_place xs) → AllByRecursion (IsLeast xs) (dedup is_same_place xs)
unfolding Up
least [] up strict = tt
least (x ∷ xs) up strict = least_kept xs x up.0 up.1 strict

-- ---- a sorted list

all_at : (xs : List Sighting) (P : Sighting → Type 0) → ((i : ℕ) (x : Sighting) → slice_get xs i ≡ Some x → P x) → AllByRecursion P xs
all_at [] P h = tt
all_at (x ∷ xs) P h = (h 0 x refl, all_at xs P (λ i y e. h (suc i) y e))

pub all_get : (P : Sighting → Type 0) (xs : List Sighting) → AllByRecursion P xs → (i : ℕ) (x : Sighting) → slice_get xs i ≡ Some x → P x
all_get P [] all i x h = absurd (none-some x h)
all_get P (y ∷ ys) all zero x h = subst P (same_Some y x h) all.0
all_get P (y ∷ ys) all (suc i) x h = all_get P ys all.1 i x h

-- each rises to each after it, by places
abbrev Far : List Sighting → Type 0
Far xs = (i j : ℕ) (s t : Sighting) → i < j → slice_get xs i ≡ Some s → slice_get xs j ≡ Some t → Rises s t

up_of : (xs : List Sighting) → Far xs → Up xs
unfolding Up
up_of [] far = tt
up_of (x ∷ xs) far = (
  all_at xs (Rises x) (λ i y e. far 0 (suc i) x y (omega arith) refl e),
  up_of xs (λ i j s t below a b. far (suc i) (suc j) s t (omega (arith, below)) a b),
)

far_of : (xs : List Sighting) → IsSortedByKey sorting_key (slice_cmp nat_cmp) xs → Far xs
far_of xs up i j s t below a b =
    let far = sorted_far (λ (x y : Sighting). is_lt (slice_cmp nat_cmp (sorting_key x) (sorting_key y))) (ranks_by nat_list_cmp_total sorting_key) xs up
    i j s (omega (arith, below)) (slice_get_within xs j t b) in
    let one : get_or xs i s ≡ s = get_or_from_slice_get xs i s s a in
    let other : get_or xs j s ≡ t = get_or_from_slice_get xs j t s b in
    sym (λ n. is_lt (slice_cmp nat_cmp (sorting_key (other n)) (sorting_key (one n)))) ∙ far

sorted_by_place : (xs : List Sighting) → IsSortedByKey sorting_key (slice_cmp nat_cmp) xs → IsSorted by_place xs
sorted_by_place xs up i d from within = by_place_rises (get_or xs i d) (get_or xs (i + 1) d) (up i d from within)

-- ---- all that is seen, each by its first entry

module _ (img : Image) (config : Config) (es : List Entry) (xs : List Sighting) (same : IsPermutation (all_sighted img (opened_at img config 0) 0 es) xs)
    (up : IsSortedByKey sorting_key (slice_cmp nat_cmp) xs) where
  abbrev all : List Sighting
  all = all_sighted img (opened_at img config 0) 0 es

  abbrev kept : List Sighting
  kept = dedup is_same_place xs

  same_equiv : IsEquivalence is_same_place
  same_equiv = subst (λ (E : Sighting → Sighting → Bool). IsEquivalence E) (λ i s t. sym (ties s t) i) (eq_by_cmp_equiv total)

  contains_in : (t : Sighting) (ts : List Sighting) → IsIn t ts → Contains ts t
  contains_in t ts h = (h.0, slice_get_within ts h.0 t h.1, get_or_from_slice_get ts h.0 t t h.1)

  in_contains : (t : Sighting) (ts : List Sighting) → Contains ts t → IsIn t ts
  in_contains t ts h = (h.0, slice_get_read ts (length ts) h.0 t refl h.1 (sym h.2))

  strict : IsStrictlySortedBy by_place kept
  strict = IsStrictlySortedBy-dedup total ties xs (sorted_by_place xs up)

  -- what is kept is one of all
  of_all : (t : Sighting) → IsIn t kept → IsIn t all
  of_all t h = in_contains t all (Contains-permutation xs all t (IsPermutation-sym all xs same) (Contains-from_dedup is_same_place xs t (contains_in t kept h)))

  to_sorted : (t : Sighting) → IsIn t all → IsIn t xs
  to_sorted t h = in_contains t xs (Contains-permutation all xs t same (contains_in t all h))

  is_first : (i : ℕ) (t : Sighting) → slice_get kept i ≡ Some t → IsFirstSeen img config es t
  is_first i t at = record {
    seen = listed_is_seen img config es t (of_all t (i, at));
    first = λ number shows.
        let other : Sighting = record { what = t.what; entry = number } in
        let there = to_sorted other (is_listed img config es number t.what shows) in
        all_get (λ (s : Sighting). t.what ≡ s.what → t.entry ≤ s.entry) xs
        (all_get (IsLeast xs) kept (least xs (up_of xs (far_of xs up)) strict) i t at) there.0 other there.1 refl;
  }

  in_seen : (ts : List Sighting) (t : Sighting) → IsIn t ts → IsIn t.what (seen_in ts)
  in_seen [] t h = absurd (none-some t h.1)
  in_seen (s ∷ ts) t (zero, h) = (zero, ap (λ (q : Sighting). Some q.what) (same_Some s t h))
  in_seen (s ∷ ts) t (suc i, h) = let rest = in_seen ts t (i, h) in (suc rest.0, rest.1)

  is_kept : (number : ℕ) (o : Observation) → IsSeenAt img config es number o → IsIn o (seen_in kept)
  is_kept number o shows =
      let t : Sighting = record { what = o; entry = number } in
      let there = Any-dedup same_equiv xs t (contains_in t xs (to_sorted t (is_listed img config es number o shows))) in
      let shown : o ≡ there.1.what = same_place o there.1.what (sym (ties t there.1) ∙ there.4) in
      subst (λ (q : Observation). IsIn q (seen_in kept)) (sym shown) (in_seen kept there.1 (in_contains there.1 kept (there.0, there.2, there.3)))

  pub are_sightings : AreSightings img config es kept
  are_sightings = record { first = all_at kept (IsFirstSeen img config es) is_first; all = is_kept; order = strict }
