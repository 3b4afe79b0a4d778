-- The victim of a write, the line that it leaves, and the lines that it makes stale.
use Rattle.std.proofs.Common.{◌≡◌, ◌≢◌, ◌∙◌, refl, sym, ap, ap₂, subst, ℕ, zero, suc, ◌+◌, ◌-◌, ◌<◌, ◌≤◌, Bool, true, false, cond, not, ◌&&◌, ◌||◌, ◌==◌, Option, Some, None, List, length, get_or, inl, inr, arith, true≢false, unwrap_or}
use Rattle.std.proofs.lemmas.Bool.{and_parts, and_from, cases_Bool, cases_lt, eq-eqb, eqb-true, ne_eqb}
use Rattle.svc_line.specs.Bits.{Bits, bits_of, is_dirty, is_exposed, after_store}
use Rattle.svc_bus_laws.specs.Search.{any_below}
use Rattle.svc_bus_laws.specs.Walk.{walk}
use Rattle.svc_bus_laws.specs.LineTable.{LineTable, is_cut}
use Rattle.svc_bus_laws.specs.Versioned.{Row, survivors}
use Rattle.svc_bus_laws.specs.BusLine.{BusLine, is_active_line, is_committed_line, is_exposed_line, marked_line, purged_line}
use Rattle.svc_bus_laws.specs.BusState.{BusState}
use Rattle.svc_bus_laws.specs.BusView.{bus_line_at, bus_map, bus_row}
use Rattle.svc_bus_laws.specs.BusSteps.{bus_write, is_below, is_overtaken_line, line_after_cut, written_bus_line}
use Rattle.svc_bus_laws.proofs.Searches.{any_found, length-tabulate}
use Rattle.svc_bus_laws.proofs.SoundSeen.{sound_seen}
use Rattle.svc_vol.specs.declared.held_line.HeldLine.{HeldLine}
use Rattle.svc_vol.specs.Value.{ListValue, held_at, unit_at}
use Rattle.svc_vcl.specs.Listed.{slot_at, is_exposure, is_overtaken_in, is_version, victim_in}
use Rattle.svc_vcl.specs.Described.{IsSlotOf, IsRequest, line_with, line_shown}
use Rattle.svc_vcl.specs.Planned.{becomes_stale, is_copy_of, is_marked_anew, is_passed_in, is_unmarked_in, marked_where, own_bits}
use Rattle.svc_vcl.proofs.Slots.{are_active, are_settled, exposed_is, overtaken_is, own_slot, victim_is}

-- ---- how many tasks are left

walk_within : (e s : ℕ → Bool) (v n len : ℕ) → v + n ≤ len → unwrap_or (walk e s v n) len ≤ len
walk_within e s v zero len fits = omega arith
walk_within e s v (suc n) len fits = elim (cases_Bool (e v)) [
  | inl pass ↦ rw pass (omega (arith, fits))
  | inr fail ↦ elim (cases_Bool (s v)) [
    | inl stop ↦ rw (fail, stop) (omega arith)
    | inr go ↦ rw (fail, go) (walk_within e s (suc v) n len (omega (arith, fits)))
  ]
]

pub few_left : (active : List (Option HeldLine)) (place : ℕ) → place < length active → unwrap_or (victim_in active place) (length active) ≤ length active
few_left active place within =
    walk_within (λ q. is_exposure (slot_at active q)) (λ q. is_version (slot_at active q)) (suc place) (length active - suc place) (length active) (omega (arith, within))

-- ---- truth values that imply each other are the same

same_truth : (x y : Bool) → (x ≡ true → y ≡ true) → (y ≡ true → x ≡ true) → x ≡ y
same_truth true y there back = sym (there refl)
same_truth false true there back = back refl
same_truth false false there back = refl

any_witness : (n : ℕ) (test : ℕ → Bool) → any_below n test ≡ true → (k : ℕ) × (k < n) × (test k ≡ true)
any_witness zero test e = absurd (true≢false (sym e))
any_witness (suc n) test e = elim (cases_Bool (test n)) [
  | inl pass ↦ (n, omega arith, pass)
  | inr fail ↦ let found = any_witness n test (sym (or_right (any_below n test) (test n) fail) ∙ e) in (found.0, omega (arith, found.1), found.2)
]
  where
    or_right : (x y : Bool) → y ≡ false → (x || y) ≡ x
    or_right true y e = refl
    or_right false y e = e

or_left : (x y : Bool) → x ≡ true → (x || y) ≡ true
or_left x y e = rw e refl

or_second : (x y : Bool) → y ≡ true → (x || y) ≡ true
or_second true y e = refl
or_second false y e = e

not_true : (x : Bool) → not x ≡ true → x ≡ false
not_true true e = sym e
not_true false e = refl

module _ (b : BusState) (t : LineTable) (a : ℕ) (list : ListValue) (unit place : ℕ) (request : IsRequest b t a list unit place) where
  pub left : unwrap_or (victim_in list.active place) (length list.active) ≡ survivors (bus_map b) place a
  left = ap₂ (λ (o : Option ℕ) (n : ℕ). unwrap_or o n) (victim_is b t a list unit place request) (request.described.places ∙ sym (length-tabulate {A = Row} (length b.units) (bus_row b)))

  pub overtaken_after : is_overtaken_in list.active (unwrap_or (victim_in list.active place) (length list.active)) place ≡ is_overtaken_line b (survivors (bus_map b) place a) place a
  overtaken_after =
      let within : place < length list.active = (let here = request.within in let same = request.described.places in omega arith) in
      let few = few_left list.active place within in
      let same = request.described.places in
      overtaken_is b t a list unit place request (unwrap_or (victim_in list.active place) (length list.active)) (omega (arith, few, same)) ∙ ap (λ n. is_overtaken_line b n place a) left

  own_line : bus_line_at b place a ≡ b.lines unit a
  own_line = ap (λ u. b.lines u a) request.at_work

  exposed_own : is_exposed (own_bits (slot_at list.active place)) ≡ is_exposed_line (bus_line_at b place a)
  exposed_own = go (slot_at list.active place) ∙ exposed_is b a unit (slot_at list.active place) (own_slot b t a list unit place request) ∙ ap is_exposed_line (sym own_line)
    where
      go : (slot : Option HeldLine) → is_exposed (own_bits slot) ≡ is_exposure slot
      go None = refl
      go (Some version) = refl

  pub written_line : (value : ℕ) (bits : Bits) (overtaken : Bool) → bits ≡ after_store (own_bits (slot_at list.active place)) overtaken
      → overtaken ≡ is_overtaken_line b (survivors (bus_map b) place a) place a → (bus_write b place a value).lines unit a ≡ Some (line_with value bits)
  written_line value bits overtaken are passed =
      let here : (a == a) ≡ true = eq-eqb a a refl in
      let unit_same : (unit == get_or b.units place 0) ≡ true = eq-eqb unit (get_or b.units place 0) (sym request.at_work) in
      rw (here, unit_same) (written ∙ ap (λ x. Some (line_with value x)) (sym are))
    where
      written : ◌≡◌ {A = Option BusLine} (Some (written_bus_line b (survivors (bus_map b) place a) place a value)) (Some (line_with value (after_store (own_bits (slot_at list.active place)) overtaken)))
      written = λ i. Some (record {
        value = value;
        store = true;
        load = sym exposed_own i;
        commit = false;
        stale = sym passed i;
      })

  -- ---- the lines that become stale

  module _ (other : ℕ) where
    abbrev copies : Bool
    copies = is_copy_of list.committed (length list.committed) unit other

    abbrev earlier : Bool
    earlier = is_passed_in list.active place other

    not_own : (other ≡ unit → ⊥) → not (other == get_or b.units place 0) ≡ true
    not_own ne = let away = ne_eqb other (get_or b.units place 0) (λ same. ne (same ∙ request.at_work)) in rw away refl

    -- a line that is kept by the purge and has no T
    marked : (line : Option BusLine) (l : BusLine) (below : Bool) → line ≡ Some l → (l.commit && l.store) ≡ false → l.stale ≡ false → (l.commit || below) ≡ true → is_marked_anew below (purged_line line) ≡ true
    marked line l below is kept fresh reached =
        subst (λ o. is_marked_anew below (purged_line o) ≡ true) (sym is) (rw kept (rw (fresh, reached) refl))

    copy_stale : copies ≡ true → becomes_stale b place a other ≡ true
    copy_stale e =
        let found = any_witness (length list.committed) _ e in
        let version = held_at list.committed found.0 in
        let only = request.described.only found.0 found.1 in
        let parts = and_parts _ _ found.2 in
        let tests = and_parts _ _ parts.0 in
        let of_unit : unit_at list.committed found.0 ≡ other = eqb-true _ _ parts.1 in
        let bits = bits_of version.line.bits in
        let are = are_settled bits only.committed in
        let fresh = and_parts (not (is_dirty bits)) (not bits.stale) tests.1 in
        let clean : bits.store ≡ false = sym (ap (λ v. v && bits.store) are.valid) ∙ not_true (is_dirty bits) fresh.0 in
        let ne : other ≡ unit → ⊥ = λ same. true≢false (sym (eq-eqb (unit_at list.committed found.0) unit (of_unit ∙ same)) ∙ not_true _ tests.0) in
        and_from _ _ (not_own ne) (marked (b.lines other a) (line_shown version) (is_below b place other) (ap (λ u. b.lines u a) (sym of_unit) ∙ only.held) (ap (λ c. c && bits.store) are.commit ∙ clean) (not_true bits.stale fresh.1) (or_left bits.commit (is_below b place other) are.commit))

    earlier_stale : earlier ≡ true → becomes_stale b place a other ≡ true
    earlier_stale e =
        let found = any_witness place _ e in
        go found.0 found.1 (slot_at list.active found.0) (request.described.active found.0 (let low = found.1 in let within = request.within in omega arith)) found.2
      where
        go : (q : ℕ) → q < place → (slot : Option HeldLine) → IsSlotOf b a (get_or b.units q 0) slot → is_unmarked_in slot other ≡ true → becomes_stale b place a other ≡ true
        go q low None is test = absurd (true≢false (sym test))
        go q low (Some version) is test =
            let bits = bits_of version.line.bits in
            let are = are_active bits is.active in
            let parts = and_parts (not bits.stale) (version.unit.0 == other) test in
            let of_unit : get_or b.units q 0 ≡ other = sym is.unit_is ∙ eqb-true _ _ parts.1 in
            let sound = sound_seen b t request.agrees in
            let ne : other ≡ unit → ⊥ = λ same. let one = sound.distinct_units q place (let within = request.within in omega (arith, low)) request.within (of_unit ∙ same ∙ sym request.at_work) in absurd (omega (arith, low, one)) in
            and_from _ _ (not_own ne) (marked (b.lines other a) (line_shown version) (is_below b place other) (ap (λ u. b.lines u a) (sym of_unit) ∙ is.held) (ap (λ c. c && bits.store) are.commit) (not_true bits.stale parts.0) (or_second bits.commit (is_below b place other) (any_found place _ q low (eq-eqb _ _ of_unit))))

    -- the line of the other unit, and what a write does to it
    module _ (l : BusLine) (held : b.lines other a ≡ Some l) (ne : (other == get_or b.units place 0) ≡ false) (fresh : l.stale ≡ false) where
      copy_named : l.commit ≡ true → l.store ≡ false → copies ≡ true
      copy_named commit clean =
          let found = request.described.each other known (ap is_committed_line held ∙ commit) in
          let only = request.described.only found.0 found.1 in
          let bits = bits_of (held_at list.committed found.0).line.bits in
          let same : line_shown (held_at list.committed found.0) ≡ l = some_line (sym only.held ∙ ap (λ u. b.lines u a) found.2 ∙ held) in
          let store : bits.store ≡ false = ap (λ (x : BusLine). x.store) same ∙ clean in
          let stale : bits.stale ≡ false = ap (λ (x : BusLine). x.stale) same ∙ fresh in
          let valid = (are_settled bits only.committed).valid in
          let writer : (unit_at list.committed found.0 == unit) ≡ false = ap₂ (λ x y. x == y) found.2 (sym request.at_work) ∙ ne in
          any_found (length list.committed) _ found.0 found.1 (and_from _ _ (and_from _ _ (ap not writer) (and_from _ _ (ap not (ap₂ (λ v s. v && s) valid store)) (ap not stale))) (eq-eqb _ _ found.2))
        where
          some_line : {x y : BusLine} → ◌≡◌ {A = Option BusLine} (Some x) (Some y) → x ≡ y
          some_line e = cc

          known : other < b.caches
          known = elim (cases_lt other b.caches) [
            | inl below ↦ below
            | inr above ↦ let none = (sound_seen b t request.agrees).cached other a above in cc
          ]

      earlier_named : l.commit ≡ false → is_below b place other ≡ true → earlier ≡ true
      earlier_named active below =
          let found = any_witness place _ below in
          let of_unit : get_or b.units found.0 0 ≡ other = eqb-true _ _ found.2 in
          any_found place _ found.0 found.1 (go (slot_at list.active found.0) (subst (λ u. IsSlotOf b a u (slot_at list.active found.0)) of_unit (request.described.active found.0 (let low = found.1 in let within = request.within in omega arith))))
        where
          some_line : {x y : BusLine} → ◌≡◌ {A = Option BusLine} (Some x) (Some y) → x ≡ y
          some_line e = cc

          go : (slot : Option HeldLine) → IsSlotOf b a other slot → is_unmarked_in slot other ≡ true
          go None is = absurd (true≢false (sym (ap is_active_line held ∙ ap not active) ∙ is))
          go (Some version) is =
              let same : line_shown version ≡ l = some_line (sym is.held ∙ held) in
              and_from _ _ (ap not (ap (λ (x : BusLine). x.stale) same ∙ fresh)) (eq-eqb _ _ is.unit_is)

    stale_named : becomes_stale b place a other ≡ true → (copies || earlier) ≡ true
    stale_named e = go (b.lines other a) refl parts.1
      where
        parts : (not (other == get_or b.units place 0) ≡ true) × (is_marked_anew (is_below b place other) (purged_line (b.lines other a)) ≡ true)
        parts = and_parts _ _ e

        ne : (other == get_or b.units place 0) ≡ false
        ne = not_true _ parts.0

        split : (l : BusLine) → b.lines other a ≡ Some l → (c s : Bool) → l.commit ≡ c → l.store ≡ s → is_marked_anew (is_below b place other) (cond (c && s) None (Some l)) ≡ true → (copies || earlier) ≡ true
        split l held true true commit store test = absurd (true≢false (sym test))
        split l held true false commit store test =
            let tests = and_parts (not l.stale) (l.commit || is_below b place other) test in
            or_left copies earlier (copy_named l held ne (not_true l.stale tests.0) commit store)
        split l held false s commit store test =
            let tests = and_parts (not l.stale) (l.commit || is_below b place other) test in
            or_second copies earlier (earlier_named l held ne (not_true l.stale tests.0) commit (sym (ap (λ c. c || is_below b place other) commit) ∙ tests.1))

        go : (line : Option BusLine) → b.lines other a ≡ line → is_marked_anew (is_below b place other) (purged_line line) ≡ true → (copies || earlier) ≡ true
        go None is test = absurd (true≢false (sym test))
        go (Some l) is test = split l is l.commit l.store refl refl test

    pub stale_is : (copies || earlier) ≡ becomes_stale b place a other
    stale_is = same_truth (copies || earlier) (becomes_stale b place a other) (λ e. elim (cases_Bool copies) [
      | inl copy ↦ copy_stale copy
      | inr none ↦ earlier_stale (sym (ap (λ x. x || earlier) none) ∙ e)
    ]) stale_named

    -- what a write makes of the other unit's line
    pub other_line : other ≢ unit → (value : ℕ) (named : Bool) → named ≡ becomes_stale b place a other
        → (bus_write b place a value).lines other a ≡ marked_where named (purged_line (line_after_cut b (survivors (bus_map b) place a) other a))
    other_line ne value named is =
        let here : (a == a) ≡ true = eq-eqb a a refl in
        let away : (other == get_or b.units place 0) ≡ false = ne_eqb other (get_or b.units place 0) (λ same. ne (same ∙ request.at_work)) in
        rw (here, away) (go (is_cut b.units (survivors (bus_map b) place a) other && is_active_line (b.lines other a)) ∙ ap (λ x. marked_where x (purged_line (line_after_cut b (survivors (bus_map b) place a) other a))) (sym (is ∙ ap (λ x. not x && is_marked_anew (is_below b place other) (purged_line (b.lines other a))) away)))
      where
        alike : (stale reached : Bool) → (stale || reached) ≡ (stale || (not stale && reached))
        alike true reached = refl
        alike false reached = refl

        marks : (line : Option BusLine) → marked_line (is_below b place other) line ≡ marked_where (is_marked_anew (is_below b place other) line) line
        marks None = refl
        marks (Some l) = ap (λ x. Some (record l { stale = x })) (alike l.stale (l.commit || is_below b place other))

        go : (cut : Bool) → marked_line (is_below b place other) (purged_line (cond cut None (b.lines other a))) ≡ marked_where (is_marked_anew (is_below b place other) (purged_line (b.lines other a))) (purged_line (cond cut None (b.lines other a)))
        go true = refl
        go false = marks (purged_line (b.lines other a))
