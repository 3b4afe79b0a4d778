-- Who supplies a read, with which value, and the line that it leaves.
use Rattle.std.proofs.Common.{◌≡◌, ◌∙◌, refl, sym, ap, subst, ℕ, ◌<◌, Bool, true, false, cond, not, ◌&&◌, ◌==◌, Option, Some, None, length, get_or, inl, inr, arith, true≢false, is_some}
use Rattle.std.specs.Prelude.{option_and_then, option_map}
use Rattle.std.proofs.lemmas.Bool.{and_parts, and_from, cases_Bool, eq-eqb, eqb-true}
use Rattle.svc_line.specs.Bits.{Bits, bits_of, is_committed, is_reusable, after_load, after_reuse}
use Rattle.svc_bus_laws.specs.Search.{greatest}
use Rattle.svc_bus_laws.specs.LineTable.{LineTable}
use Rattle.svc_bus_laws.specs.Supplier.{Supplier, Hit, Reuse, Version as FromVersion, Spill, Committed, Memory, by_committed}
use Rattle.svc_bus_laws.specs.BusLine.{BusLine, is_active_line, is_committed_line, is_reusable_line, reused_line, value_of_line, version_of_line}
use Rattle.svc_bus_laws.specs.BusState.{BusState}
use Rattle.svc_bus_laws.specs.BusView.{bus_by_version, bus_line_at, bus_newest, bus_supplied, bus_supplier, bus_view}
use Rattle.svc_bus_laws.specs.BusSteps.{bus_read, filled_bus_line, is_overtaken_line}
use Rattle.svc_bus_laws.proofs.Searches.{greatest_cases, least_cases, some_is}
use Rattle.svc_bus_laws.proofs.SoundSeen.{sound_seen, supplied_seen}
use Rattle.svc_vol.specs.declared.held_line.HeldLine.{HeldLine}
use Rattle.svc_vol.specs.Value.{ListValue, held_at, unit_at}
use Rattle.svc_vcl.specs.Listed.{slot_at, is_version, nearest_in, nearest_version_in, newest_in, newest_version_in, reusable_in, reusable_copy_in}
use Rattle.svc_vcl.specs.Described.{IsActiveIn, IsSlotOf, IsReadRequest, line_with, line_shown}
use Rattle.svc_vcl.proofs.Slots.{active_bits, are_active, are_settled, nearest_is, own_slot, reusable_bits}
use Rattle.svc_vcl.proofs.Newest.{newest_found, newest_lacks}

-- a committed copy that may be reused is committed
committed_of : (line : Option BusLine) → is_reusable_line line ≡ true → is_committed_line line ≡ true
committed_of None e = e
committed_of (Some l) e = (and_parts l.commit (not l.store && not l.stale) e).0

reusable_committed : (bits : Bits) → is_reusable bits ≡ true → is_committed bits ≡ true
reusable_committed bits e = (and_parts (is_committed bits) (not bits.store) (and_parts (is_committed bits && not bits.store) (not bits.stale) e).0).0

module _ (b : BusState) (t : LineTable) (a : ℕ) (list : ListValue) (unit place : ℕ) (spill : Option ℕ) (backing : ℕ) (read : IsReadRequest b t a list unit place spill backing) where
  abbrev tested : ℕ → Bool
  tested q = is_some (version_of_line (bus_line_at b q a))

  -- ---- the supplier where the unit's own line is none

  nearest_same : nearest_in list.active place ≡ greatest place tested
  nearest_same = nearest_is b t a list unit place read.request

  pub served_version : (version : HeldLine) → nearest_version_in list.active place ≡ Some version
      → (FromVersion version.unit.0 ≡ bus_by_version b a (greatest place tested)) × (bus_supplied b place a (FromVersion version.unit.0) ≡ Some version.line.value)
  served_version version found = go (nearest_in list.active place) refl found
    where
      at_place : (q : ℕ) → nearest_in list.active place ≡ Some q → q < place
      at_place q is = elim (greatest_cases place (λ k. is_version (slot_at list.active k))) [
        | inl (none, _) ↦ cc
        | inr (m, found, here, _, _) ↦ let same : m ≡ q = some_is m q (sym found ∙ is) in omega (arith, here, same)
      ]

      slot : (q : ℕ) → nearest_in list.active place ≡ Some q → slot_at list.active q ≡ Some version → IsActiveIn b a (get_or b.units q 0) version
      slot q is held = subst (IsSlotOf b a (get_or b.units q 0)) held (read.request.described.active q (let low = at_place q is in let within = read.request.within in omega arith))

      go : (o : Option ℕ) → nearest_in list.active place ≡ o → option_and_then (slot_at list.active) o ≡ Some version
          → (FromVersion version.unit.0 ≡ bus_by_version b a (greatest place tested)) × (bus_supplied b place a (FromVersion version.unit.0) ≡ Some version.line.value)
      go None is held = cc
      go (Some q) is held =
          let here = slot q is held in
          (ap FromVersion here.unit_is ∙ sym (ap (bus_by_version b a) (sym nearest_same ∙ is)), ap (λ line. Some (value_of_line line)) (ap (λ u. b.lines u a) here.unit_is ∙ here.held))

  no_held_line : nearest_version_in list.active place ≡ None → greatest place tested ≡ None
  no_held_line none = sym nearest_same ∙ go (nearest_in list.active place) refl none
    where
      go : (o : Option ℕ) → nearest_in list.active place ≡ o → option_and_then (slot_at list.active) o ≡ None → nearest_in list.active place ≡ None
      go None is lacks = is
      go (Some q) is lacks = elim (greatest_cases place (λ k. is_version (slot_at list.active k))) [
        | inl (none, _) ↦ none
        | inr (m, found, _, pass, _) ↦
            let same : m ≡ q = some_is m q (sym found ∙ is) in
            absurd (true≢false (sym pass ∙ ap (λ k. is_version (slot_at list.active k)) same ∙ ap is_version lacks))
      ]

  pub served_spill : (value : ℕ) → nearest_version_in list.active place ≡ None → spill ≡ Some value
      → (Spill ≡ bus_by_version b a (greatest place tested)) × (bus_supplied b place a Spill ≡ Some value)
  served_spill value none spilled =
      let held : b.spill a ≡ Some value = read.spill_is ∙ spilled in
      (sym (ap (bus_by_version b a) (no_held_line none) ∙ ap (λ (o : Option ℕ). cond (is_some o) Spill (by_committed (bus_newest b a))) held), held)

  not_spilled : nearest_version_in list.active place ≡ None → spill ≡ None → bus_by_version b a (greatest place tested) ≡ by_committed (bus_newest b a)
  not_spilled none empty = ap (bus_by_version b a) (no_held_line none) ∙ ap (λ (o : Option ℕ). cond (is_some o) Spill (by_committed (bus_newest b a))) (read.spill_is ∙ empty)

  pub served_committed : (version : HeldLine) → nearest_version_in list.active place ≡ None → spill ≡ None → newest_version_in list.committed ≡ Some version
      → (Committed version.unit.0 ≡ bus_by_version b a (greatest place tested)) × (bus_supplied b place a (Committed version.unit.0) ≡ Some version.line.value)
  served_committed version none empty found = go (newest_in list.committed) refl found
    where
      go : (o : Option ℕ) → newest_in list.committed ≡ o → option_map (held_at list.committed) o ≡ Some version
          → (Committed version.unit.0 ≡ bus_by_version b a (greatest place tested)) × (bus_supplied b place a (Committed version.unit.0) ≡ Some version.line.value)
      go None is held = cc
      go (Some i) is held =
          let newest = newest_found b t a list read.request.agrees read.request.described i is in
          let same : held_at list.committed i ≡ version = cc in (
            ap (λ (v : HeldLine). Committed v.unit.0) (sym same) ∙ sym (not_spilled none empty ∙ ap by_committed newest.1),
            ap (λ (v : HeldLine). Some (value_of_line (b.lines v.unit.0 a))) (sym same) ∙ ap (λ line. Some (value_of_line line)) (read.request.described.only i newest.0).held ∙ ap (λ (v : HeldLine). Some v.line.value) same,
          )

  pub served_memory : nearest_version_in list.active place ≡ None → spill ≡ None → newest_version_in list.committed ≡ None
      → (Memory ≡ bus_by_version b a (greatest place tested)) × (bus_supplied b place a Memory ≡ Some backing)
  served_memory none empty lacks = go (newest_in list.committed) refl lacks
    where
      go : (o : Option ℕ) → newest_in list.committed ≡ o → option_map (held_at list.committed) o ≡ None
          → (Memory ≡ bus_by_version b a (greatest place tested)) × (bus_supplied b place a Memory ≡ Some backing)
      go None is held = (sym (not_spilled none empty ∙ ap by_committed (newest_lacks b t a list read.request.agrees read.request.described is)), ap Some read.backing_is)
      go (Some i) is held = cc

  -- ---- the unit's own line

  own_line : bus_line_at b place a ≡ b.lines unit a
  own_line = ap (λ u. b.lines u a) read.request.at_work

  -- the value of the supplier is the task's view
  pub view_is : (supplier : Supplier) (value : ℕ) → supplier ≡ bus_supplier b place a → bus_supplied b place a supplier ≡ Some value → value ≡ bus_view b place a
  view_is supplier value is supplied = some_is value (bus_view b place a) (sym supplied ∙ ap (bus_supplied b place a) is ∙ supplied_seen b t place a read.request.agrees read.request.within)

  here_same : (a == a) ≡ true
  here_same = eq-eqb a a refl

  unit_same : (unit == get_or b.units place 0) ≡ true
  unit_same = eq-eqb unit (get_or b.units place 0) (sym read.request.at_work)

  -- an active line hits
  module _ (own : HeldLine) (slot : slot_at list.active place ≡ Some own) where
    hit_here : IsActiveIn b a unit own
    hit_here = subst (IsSlotOf b a unit) slot (own_slot b t a list unit place read.request)

    hit_active : is_active_line (bus_line_at b place a) ≡ true
    hit_active = ap is_active_line (own_line ∙ hit_here.held) ∙ active_bits (bits_of own.line.bits) own.line.value hit_here.active

    pub hit_supplier : Hit ≡ bus_supplier b place a
    hit_supplier = rw hit_active refl

    pub hit_value : bus_supplied b place a Hit ≡ Some own.line.value
    hit_value = ap (λ line. Some (value_of_line line)) (own_line ∙ hit_here.held)

    pub hit_line : (bus_read b place a).lines unit a ≡ Some (line_shown own)
    hit_line = rw hit_active hit_here.held

    pub hit_valid : (bits_of own.line.bits).valid ≡ true
    hit_valid = (are_active (bits_of own.line.bits) hit_here.active).valid

  -- otherwise a copy that no later store has passed is reused
  module _ (slot : slot_at list.active place ≡ None) where
    inactive : is_active_line (bus_line_at b place a) ≡ false
    inactive = ap is_active_line own_line ∙ subst (IsSlotOf b a unit) slot (own_slot b t a list unit place read.request)

    module _ (copy : HeldLine) (found : reusable_copy_in list.committed unit ≡ Some copy) where
      record IsCopy : Type 0 where
        held : b.lines unit a ≡ Some (line_shown copy)
        reusable : is_reusable (bits_of copy.line.bits) ≡ true

      is_copy : IsCopy
      is_copy = go (reusable_in list.committed unit) refl found
        where
          at_place : (i : ℕ) → held_at list.committed i ≡ copy → i < length list.committed → ((unit_at list.committed i == unit) && is_reusable (bits_of (held_at list.committed i).line.bits)) ≡ true → IsCopy
          at_place i same here pass =
              let parts = and_parts _ _ pass in
              let of_unit : unit_at list.committed i ≡ unit = eqb-true _ _ parts.0 in
              record {
                held = ap (λ u. b.lines u a) (sym of_unit) ∙ (read.request.described.only i here).held ∙ ap (λ (v : HeldLine). Some (line_shown v)) same;
                reusable = ap (λ (v : HeldLine). is_reusable (bits_of v.line.bits)) (sym same) ∙ parts.1;
              }

          go : (o : Option ℕ) → reusable_in list.committed unit ≡ o → option_map (held_at list.committed) o ≡ Some copy → IsCopy
          go None is held = cc
          go (Some i) is held = elim (least_cases (length list.committed) (λ k. (unit_at list.committed k == unit) && is_reusable (bits_of (held_at list.committed k).line.bits))) [
            | inl (none, _) ↦ cc
            | inr (m, is_m, first) ↦
                let same : m ≡ i = some_is m i (sym is_m ∙ is) in
                let version : held_at list.committed m ≡ copy = ap (held_at list.committed) same ∙ (cc) in
                at_place m version first.within first.passes
          ]

      reuse_committed : is_committed (bits_of copy.line.bits) ≡ true
      reuse_committed = reusable_committed (bits_of copy.line.bits) is_copy.reusable

      reuse_reusable : is_reusable_line (bus_line_at b place a) ≡ true
      reuse_reusable = ap is_reusable_line (own_line ∙ is_copy.held) ∙ sym (reusable_bits (bits_of copy.line.bits) copy.line.value reuse_committed) ∙ is_copy.reusable

      pub reuse_supplier : Reuse ≡ bus_supplier b place a
      reuse_supplier = rw (inactive, reuse_reusable) refl

      pub reuse_value : bus_supplied b place a Reuse ≡ Some copy.line.value
      reuse_value = ap (λ line. Some (value_of_line line)) (own_line ∙ is_copy.held)

      pub reuse_line : (bits : Bits) → bits ≡ after_reuse (bits_of copy.line.bits) → (bus_read b place a).lines unit a ≡ Some (line_with copy.line.value bits)
      reuse_line bits is = rw (inactive, reuse_reusable, here_same, unit_same) (ap reused_line is_copy.held ∙ ap (λ x. Some (line_with copy.line.value x)) (sym is))

      pub reuse_valid : (bits : Bits) → bits ≡ after_reuse (bits_of copy.line.bits) → bits.valid ≡ true
      reuse_valid bits is = ap (λ (x : Bits). x.valid) is ∙ (are_settled (bits_of copy.line.bits) reuse_committed).valid

    -- otherwise the request goes to the bus
    module _ (lacks : reusable_copy_in list.committed unit ≡ None) where
      not_reusable : is_reusable_line (bus_line_at b place a) ≡ false
      not_reusable = ap is_reusable_line own_line ∙ elim (cases_Bool (is_reusable_line (b.lines unit a))) [
        | inr fail ↦ fail
        | inl pass ↦ go (reusable_in list.committed unit) refl lacks pass
      ]
        where
          known : unit < b.caches
          known = subst (λ u. u < b.caches) read.request.at_work ((sound_seen b t read.request.agrees).known_units place read.request.within)

          go : (o : Option ℕ) → reusable_in list.committed unit ≡ o → option_map (held_at list.committed) o ≡ None → is_reusable_line (b.lines unit a) ≡ true → is_reusable_line (b.lines unit a) ≡ false
          go (Some i) is held pass = cc
          go None is held pass = elim (least_cases (length list.committed) (λ k. (unit_at list.committed k == unit) && is_reusable (bits_of (held_at list.committed k).line.bits))) [
            | inr (m, is_m, _) ↦ cc
            | inl (_, never) ↦
                let place_of = read.request.described.each unit known (committed_of (b.lines unit a) pass) in
                let i = place_of.0 in
                let only = read.request.described.only i place_of.1 in
                let version = held_at list.committed i in
                let reusable : is_reusable (bits_of version.line.bits) ≡ true = reusable_bits (bits_of version.line.bits) version.line.value only.committed ∙ ap is_reusable_line (sym only.held ∙ ap (λ u. b.lines u a) place_of.2) ∙ pass in
                absurd (true≢false (sym (and_from _ _ (eq-eqb _ _ place_of.2) reusable) ∙ never i place_of.1))
          ]

      pub fill_supplier : (supplier : Supplier) → supplier ≡ bus_by_version b a (greatest place tested) → supplier ≡ bus_supplier b place a
      fill_supplier supplier is = is ∙ sym (rw (inactive, not_reusable) refl)

      pub fill_line : (value : ℕ) (bits : Bits) (first_use overtaken : Bool) → value ≡ bus_view b place a → bits ≡ after_load first_use overtaken
          → first_use ≡ not ((place == 0) && is_some spill) → overtaken ≡ is_overtaken_line b (length b.units) place a
          → (bus_read b place a).lines unit a ≡ Some (line_with value bits)
      fill_line value bits first_use overtaken is bits_are used passed = rw (inactive, not_reusable, here_same, unit_same) (filled ∙ ap (λ x. Some (line_with value x)) (sym bits_are))
        where
          filled : ◌≡◌ {A = Option BusLine} (Some (filled_bus_line b place a (bus_view b place a))) (Some (line_with value (after_load first_use overtaken)))
          filled = λ i. Some (record {
            value = sym is i;
            store = false;
            load = (ap (λ (o : Option ℕ). not ((place == 0) && is_some o)) read.spill_is ∙ sym used) i;
            commit = false;
            stale = sym passed i;
          })
