-- The fields of a word's committed versions are those of the units that the bus lists.
use Rattle.std.proofs.Common.{◌≡◌, ◌≢◌, ◌∙◌, ◌+◌, ◌<◌, ◌≤◌, ◌++◌, ◌∷◌, [], ℕ, zero, suc, List, Bool, true, false, Option, None, ◌⊎◌, inl, inr, get_or, length, take, refl, ap, ap₂, sym, subst, arith, true≢false, lt-ltb, le-ltb, eq-eqb, eqb-true, ltb, ltb-true}
use Rattle.std.specs.Prelude.{◌==◌, ◌&&◌, ◌||◌, cond, count_by, flat_map}
use Rattle.std.specs.List.{All, AllPairs, list_any, range_with_len}
use Rattle.std.proofs.lemmas.Bool.{and_from, and_parts, cases_Bool, cases_eq, cases_lt}
use Rattle.std.proofs.lemmas.List.{append-nil, get_or_default, take_all, take_more}
use Rattle.std.proofs.lemmas.List.Concat.{flat_map-append}
use Rattle.std.proofs.lemmas.List.Folds.{Any-from_list_any}
use Rattle.std.proofs.lemmas.List.FromFn.{length-range_with_len}
use Rattle.std.proofs.lemmas.List.Sums.{count_by-le-length}
use Rattle.svc_base.specs.declared.ids.UnitId.{UnitId}
use Rattle.svc_bus.specs.Versions.{AreItsVersions, is_older_version}
use Rattle.svc_bus_laws.specs.BusLine.{is_committed_dirty_line}
use Rattle.svc_bus_laws.specs.BusState.{Agrees, BusState}
use Rattle.svc_bus_laws.specs.LineTable.{LineTable}
use Rattle.svc_bus_laws.proofs.OrderProofs.{order_strict}
use Rattle.svc_bus_laws.proofs.SoundSeen.{sound_seen}
use Rattle.svc_held.proofs.Ranges.{lists_more}
use Rattle.svc_version_order.specs.Fields.{committed_field, committed_fields}
use Rattle.svc_version_order.specs.Order.{older_count, version_field, version_fields, versions_at}
use Rattle.svc_version_order.proofs.Counting.{count_none, count_one_more, count_same, no_rows, one_row}

-- what stands past the end of a list
unit_0 : UnitId
unit_0 = record { 0 = 0 }

either_right : (x y : Bool) → y ≡ true → (x || y) ≡ true
either_right true y is = refl
either_right false y is = is

module _ (b : BusState) (t : LineTable) (word : ℕ) (units : List UnitId) (agrees : Agrees b t) (are : AreItsVersions b word units) where
  abbrev is_version : ℕ → Bool
  is_version u = is_committed_dirty_line (b.lines u word)

  abbrev older : (first second : ℕ) → Bool
  older first second = is_older_version b word first second

  abbrev id : ℕ → ℕ
  id k = (get_or units k unit_0).0

  has : (k : ℕ) → k < length units → is_version (id k) ≡ true
  has k within = are.only k unit_0 within

  place : (u : ℕ) → is_version u ≡ true → (k : ℕ) × (k < length units) × (id k ≡ u)
  place u version =
      let found = Any-from_list_any (λ (x : UnitId). x.0 == u) units (are.each u version) in
      let here : get_or units found.0 unit_0 ≡ found.1 = get_or_default units found.0 unit_0 found.1 found.2 ∙ found.3 in
      (found.0, found.2, ap (λ (x : UnitId). x.0) here ∙ eqb-true found.1.0 u found.4)

  cached : (u : ℕ) → is_version u ≡ true → u < b.caches
  cached u version = elim (cases_lt u b.caches) [
    | inl below ↦ below
    | inr past ↦ absurd (true≢false (sym version ∙ ap is_committed_dirty_line ((sound_seen b t agrees).cached u word past)))
  ]

  first_has : (u v : ℕ) → older u v ≡ true → is_version u ≡ true
  first_has u v is = (and_parts _ _ (and_parts _ _ is).0).0

  strict : (u v : ℕ) → older u v ≡ true → older v u ≡ false
  strict u v is = elim (cases_Bool (older v u)) [
    | inr never ↦ never
    | inl back ↦ absurd (true≢false (sym (and_parts _ _ back).1 ∙ order_strict b t word u v agrees (and_parts _ _ is).1))
  ]

  never_itself : (u : ℕ) → older u u ≡ false
  never_itself u = elim (cases_Bool (older u u)) [ inr never ↦ never | inl is ↦ strict u u is ]

  -- the places are in the order of the versions
  in_order : (i j : ℕ) → i < length units → j < length units → older (id i) (id j) ≡ ltb i j
  in_order i j here there = elim (cases_lt i j) [
    | inl before ↦ are.oldest_first i j unit_0 before there ∙ sym (lt-ltb i j before)
    | inr past ↦ elim (cases_eq i j) [
      | inl same ↦ ap (λ k. older (id i) (id k)) (sym same) ∙ never_itself (id i) ∙ sym (le-ltb i j past)
      | inr apart ↦ strict (id j) (id i) (are.oldest_first j i unit_0 (omega (arith, past, apart)) here) ∙ sym (le-ltb i j past)
    ]
  ]

  once : (i j : ℕ) → i < length units → j < length units → id i ≡ id j → i ≡ j
  once i j here there same = elim (cases_eq i j) [
    | inl is ↦ is
    | inr apart ↦ elim (cases_lt i j) [
      | inl before ↦ absurd (true≢false (sym (lt-ltb i j before) ∙ sym (in_order i j here there) ∙ ap (λ u. older u (id j)) same ∙ never_itself (id j)))
      | inr past ↦ absurd (true≢false (sym (lt-ltb j i (omega (arith, past, apart))) ∙ sym (in_order j i there here) ∙ ap (older (id j)) same ∙ never_itself (id j)))
    ]
  ]

  -- one of the first k units
  abbrev stands : (k u : ℕ) → Bool
  stands zero u = false
  stands (suc k) u = stands k u || (id k == u)

  stands_at : (k i : ℕ) → i < k → stands k (id i) ≡ true
  stands_at zero i below = absurd (omega (arith, below))
  stands_at (suc k) i below = elim (cases_eq i k) [
    | inl same ↦ either_right (stands k (id i)) (id k == id i) (eq-eqb (id k) (id i) (ap id (sym same)))
    | inr apart ↦ ap (λ x. x || (id k == id i)) (stands_at k i (omega (arith, below, apart)))
  ]

  stands_only : (k u : ℕ) → stands k u ≡ true → (i : ℕ) × (i < k) × (id i ≡ u)
  stands_only zero u is = absurd (true≢false (sym is))
  stands_only (suc k) u is = by (λ before. stands_only k u before) (cases_Bool (stands k u))
    where
      by : (stands k u ≡ true → (i : ℕ) × (i < k) × (id i ≡ u)) → (stands k u ≡ true) ⊎ (stands k u ≡ false) → (i : ℕ) × (i < suc k) × (id i ≡ u)
      by earlier (inl before) = let found = earlier before in (found.0, omega (arith, found.1), found.2)
      by earlier (inr new) = (k, omega arith, eqb-true (id k) u (sym (ap (λ x. x || (id k == u)) new) ∙ is))

  count_stands : (k : ℕ) → k ≤ length units → count_by (stands k) (range_with_len 0 b.caches) ≡ k
  count_stands zero few = count_none b.caches
  count_stands (suc k) few =
      let here : k < length units = omega (arith, few) in
      let new : stands k (id k) ≡ false = elim (cases_Bool (stands k (id k))) [
        | inr never ↦ never
        | inl is ↦ let found = stands_only k (id k) is in
            let same : found.0 ≡ k = once found.0 k (omega (arith, found.1, here)) here found.2 in
            let below = found.1 in
            absurd (omega (arith, same, below))
      ] in
      count_one_more (stands k) (id k) b.caches new (cached (id k) (has k here)) ∙ ap suc (count_stands k (omega (arith, few)))

  -- older than the version at a place are those before it
  stands_before : (k u : ℕ) → k < length units → older u (id k) ≡ stands k u
  stands_before k u here = elim (cases_Bool (stands k u)) [
    | inl is ↦ let found = stands_only k u is in
        let below = found.1 in
        ap (λ v. older v (id k)) (sym found.2) ∙ in_order found.0 k (omega (arith, below, here)) here ∙ lt-ltb found.0 k below ∙ sym is
    | inr fails ↦ elim (cases_Bool (older u (id k))) [
      | inr never ↦ never ∙ sym fails
      | inl is ↦ let found = place u (first_has u (id k) is) in
          let before : true ≡ stands k u = elim (cases_lt found.0 k) [
            | inl below ↦ sym (ap (stands k) (sym found.2) ∙ stands_at k found.0 below)
            | inr past ↦ absurd (true≢false (sym is ∙ ap (λ v. older v (id k)) (sym found.2) ∙ in_order found.0 k found.1 here ∙ le-ltb found.0 k past))
          ] in
          absurd (true≢false (before ∙ fails))
    ]
  ]

  rank : (k : ℕ) → k < length units → older_count b.caches b word (id k) ≡ k
  rank k here = count_same (λ u. older u (id k)) (stands k) b.caches (λ u below. stands_before k u here) ∙ count_stands k (omega (arith, here))

  abbrev field_at : (place unit : ℕ) → List ℕ
  field_at k u = version_field b.caches b word k u (b.lines u word)

  none_at : (k u : ℕ) → ((i : ℕ) → i < length units → id i ≡ u → i ≢ k) → field_at k u ≡ []
  none_at k u other = elim (cases_Bool (is_version u && (older_count b.caches b word u == k))) [
    | inr fails ↦ ap (λ x. cond x (committed_field u) []) fails
    | inl is ↦ let found = place u (and_parts _ _ is).0 in
        let same : found.0 ≡ k = sym (rank found.0 found.1) ∙ ap (older_count b.caches b word) found.2 ∙ eqb-true _ k (and_parts _ _ is).1 in
        absurd (other found.0 found.1 found.2 same)
  ]

  one_at : (k : ℕ) → k < length units → field_at k (id k) ≡ committed_field (id k)
  one_at k here = ap (λ x. cond x (committed_field (id k)) []) (and_from _ _ (has k here) (eq-eqb _ k (rank k here)))

  at_place : (k : ℕ) → k < length units → versions_at b.caches b word k ≡ committed_field (id k)
  at_place k here =
      one_row (field_at k) (id k) b.caches (cached (id k) (has k here))
      (λ u below apart. none_at k u (λ i within is same. apart (ap id (sym same) ∙ is)))
      ∙ one_at k here

  past_all : (k : ℕ) → length units ≤ k → versions_at b.caches b word k ≡ []
  past_all k past = no_rows (field_at k) b.caches (λ u below. none_at k u (λ i within is same. omega (arith, within, same, past)))

  front : (k : ℕ) → flat_map (versions_at b.caches b word) (range_with_len 0 k) ≡ committed_fields (take k units)
  front zero = refl
  front (suc k) =
      let e : k + 1 ≡ suc k = omega arith in
      ap (λ m. flat_map (versions_at b.caches b word) (range_with_len 0 m)) (sym e) ∙ lists_more (versions_at b.caches b word) k
      ∙ ap (λ l. l ++ versions_at b.caches b word k) (front k) ∙ last (cases_lt k (length units)) ∙ ap (λ m. committed_fields (take m units)) e
    where
      last : (k < length units) ⊎ (length units ≤ k) → committed_fields (take k units) ++ versions_at b.caches b word k ≡ committed_fields (take (k + 1) units)
      last (inl here) =
          ap (λ l. committed_fields (take k units) ++ l) (at_place k here ∙ sym (append-nil (committed_field (id k))))
          ∙ sym (flat_map-append (λ (x : UnitId). committed_field x.0) (take k units) (get_or units k unit_0 ∷ []))
          ∙ ap committed_fields (sym (take_more units k unit_0 here))
      last (inr past) =
          ap (λ l. committed_fields (take k units) ++ l) (past_all k past) ∙ append-nil (committed_fields (take k units))
          ∙ ap committed_fields (take_all k units past ∙ sym (take_all (k + 1) units (omega (arith, past))))

  pub fields_of_versions : committed_fields units ≡ version_fields b.caches b word
  fields_of_versions =
      let few : length units ≤ b.caches =
      subst (λ n. n ≤ b.caches) (count_stands (length units) (omega arith))
      (subst (λ n. count_by (stands (length units)) (range_with_len 0 b.caches) ≤ n) (length-range_with_len 0 b.caches) (count_by-le-length (stands (length units)) (range_with_len 0 b.caches))) in
      sym (front b.caches ∙ ap committed_fields (take_all b.caches units few))
