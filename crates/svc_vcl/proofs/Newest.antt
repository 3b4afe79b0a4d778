-- The last dirty one of the committed versions is the newest.
use Rattle.std.proofs.Common.{◌≡◌, ◌≢◌, ◌∙◌, refl, sym, ap, ℕ, ◌<◌, Bool, true, false, not, ◌||◌, Option, Some, None, length, inl, inr, arith, true≢false}
use Rattle.std.proofs.lemmas.Bool.{and_parts, and_from, cases_Bool, cases_eq, cases_lt}
use Rattle.svc_line.specs.Bits.{bits_of, is_dirty}
use Rattle.svc_bus_laws.specs.LineTable.{LineTable}
use Rattle.svc_bus_laws.specs.BusLine.{BusLine, is_committed_line, is_committed_dirty_line, is_dirty_line}
use Rattle.svc_bus_laws.specs.BusState.{BusState, Agrees}
use Rattle.svc_bus_laws.specs.BusView.{bus_newest, is_newest_line}
use Rattle.svc_bus_laws.proofs.Searches.{greatest_cases, least_found, least_none, all_from, all_true, some_is}
use Rattle.svc_bus_laws.proofs.OrderProofs.{order_strict, order_total}
use Rattle.svc_vol.specs.Value.{ListValue, held_at, unit_at}
use Rattle.svc_vcl.specs.Listed.{newest_in}
use Rattle.svc_vcl.specs.Described.{Describes}
use Rattle.svc_vcl.proofs.Slots.{dirty_bits}

committed_of : (line : Option BusLine) → is_committed_dirty_line line ≡ true → is_committed_line line ≡ true
committed_of None e = e
committed_of (Some l) e = (and_parts l.commit l.store e).0

dirty_of : (line : Option BusLine) → is_committed_dirty_line line ≡ true → is_dirty_line line ≡ true
dirty_of None e = e
dirty_of (Some l) e = (and_parts l.commit l.store e).1

or_not : (x y : Bool) → (not x || not y) ≡ true → x ≡ true → y ≡ false
or_not true true e h = absurd (true≢false (sym e))
or_not true false e h = refl
or_not false y e h = absurd (true≢false (sym h))

or_from : (x y : Bool) → (x ≡ true → y ≡ false) → (not x || not y) ≡ true
or_from true y e = rw (e refl) refl
or_from false y e = refl

module _ (b : BusState) (t : LineTable) (a : ℕ) (list : ListValue) (agrees : Agrees b t) (described : Describes b a list) where
  abbrev dirty_at : ℕ → Bool
  dirty_at i = is_dirty (bits_of (held_at list.committed i).line.bits)

  is_dirty_unit : (i : ℕ) → i < length list.committed → dirty_at i ≡ is_committed_dirty_line (b.lines (unit_at list.committed i) a)
  is_dirty_unit i here =
      let only = described.only i here in
      dirty_bits (bits_of (held_at list.committed i).line.bits) (held_at list.committed i).line.value only.committed ∙ ap is_committed_dirty_line (sym only.held)

  never_itself : (u : ℕ) → b.is_older a u u ≡ false
  never_itself u = elim (cases_Bool (b.is_older a u u)) [
    | inl older ↦ order_strict b t a u u agrees older
    | inr never ↦ never
  ]

  -- each committed dirty line of the word stands in the list
  place_of : (v : ℕ) → v < b.caches → is_committed_dirty_line (b.lines v a) ≡ true → (j : ℕ) × (j < length list.committed) × (unit_at list.committed j ≡ v) × (dirty_at j ≡ true)
  place_of v below dirty =
      let found = described.each v below (committed_of (b.lines v a) dirty) in
      (found.0, found.1, found.2, is_dirty_unit found.0 found.1 ∙ ap (λ u. is_committed_dirty_line (b.lines u a)) found.2 ∙ dirty)

  -- the last dirty version
  module _ (i : ℕ) (here : i < length list.committed) (dirty : dirty_at i ≡ true) (last : (k : ℕ) → i < k → k < length list.committed → dirty_at k ≡ false) where
    abbrev newest_unit : ℕ
    newest_unit = unit_at list.committed i

    newest_dirty : is_committed_dirty_line (b.lines newest_unit a) ≡ true
    newest_dirty = sym (is_dirty_unit i here) ∙ dirty

    older_than_none : (v : ℕ) → v < b.caches → is_committed_dirty_line (b.lines v a) ≡ true → b.is_older a newest_unit v ≡ false
    older_than_none v below other =
        let found = place_of v below other in
        elim (cases_eq found.0 i) [
          | inl same ↦ ap (b.is_older a newest_unit) (sym found.2 ∙ ap (unit_at list.committed) same) ∙ never_itself newest_unit
          | inr ne ↦ elim (cases_lt found.0 i) [
            | inl before ↦ ap (b.is_older a newest_unit) (sym found.2) ∙ described.oldest_first found.0 i before here
            | inr after ↦ absurd (true≢false (sym found.3 ∙ last found.0 (omega (arith, after, ne)) found.1))
          ]
        ]

    passes : is_newest_line b a newest_unit ≡ true
    passes = and_from _ _ newest_dirty (all_from b.caches _ (λ v below. or_from (is_committed_dirty_line (b.lines v a)) (b.is_older a newest_unit v) (older_than_none v below)))

    only_one : (v : ℕ) → v < b.caches → v ≢ newest_unit → is_newest_line b a v ≡ false
    only_one v below ne = elim (cases_Bool (is_newest_line b a v)) [
      | inr fail ↦ fail
      | inl pass ↦
          let parts = and_parts _ _ pass in
          let within = (described.only i here).within in
          let not_older : b.is_older a v newest_unit ≡ false = or_not _ _ (all_true b.caches (λ x. not (is_committed_dirty_line (b.lines x a)) || not (b.is_older a v x)) parts.1 newest_unit within) newest_dirty in
          elim (order_total b t a v newest_unit agrees ne (dirty_of (b.lines v a) parts.0) (dirty_of (b.lines newest_unit a) newest_dirty)) [
            | inl older ↦ absurd (true≢false (sym older ∙ not_older))
            | inr older ↦ absurd (true≢false (sym older ∙ older_than_none v below parts.0))
          ]
    ]

    pub newest_is : bus_newest b a ≡ Some newest_unit
    newest_is =
        let within = (described.only i here).within in
        least_found b.caches (is_newest_line b a) newest_unit (record {
          within = within;
          passes = passes;
          before = λ k low. only_one k (omega (arith, low, within)) (λ same. absurd (omega (arith, low, same)));
        })

  pub newest_found : (i : ℕ) → newest_in list.committed ≡ Some i → (i < length list.committed) × (bus_newest b a ≡ Some (unit_at list.committed i))
  newest_found i found = elim (greatest_cases (length list.committed) dirty_at) [
    | inl (none, _) ↦ cc
    | inr (m, is, here, dirty, last) ↦
        let same : m ≡ i = some_is m i (sym is ∙ found) in
        (omega (arith, same, here), newest_is m here dirty last ∙ ap (λ k. Some (unit_at list.committed k)) same)
  ]

  pub newest_lacks : newest_in list.committed ≡ None → bus_newest b a ≡ None
  newest_lacks none = elim (greatest_cases (length list.committed) dirty_at) [
    | inr (m, is, here, dirty, last) ↦ cc
    | inl (_, never) ↦ least_none b.caches (is_newest_line b a) (λ u below. elim (cases_Bool (is_committed_dirty_line (b.lines u a))) [
      | inr clean ↦ rw clean refl
      | inl dirty ↦ let found = place_of u below dirty in absurd (true≢false (sym found.3 ∙ never found.0 found.1))
    ])
  ]
