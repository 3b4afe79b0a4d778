-- The lines that a write changes are their units' lines, stand in other caches, and are not purged.
use Rattle.std.proofs.Common.{◌≡◌, ◌≢◌, ◌⊎◌, ◌∙◌, refl, sym, ap, subst, ℕ, zero, suc, ◌-◌, ◌<◌, ◌≤◌, Bool, true, false, cond, not, ◌&&◌, Option, Some, None, List, [], ◌∷◌, ◌++◌, length, map, get_or, take, option_map, inl, inr, arith, true≢false, eq-eqb}
use Rattle.std.specs.Prelude.{option_and_then}
use Rattle.std.specs.Bool.{◌==◌}
use Rattle.std.proofs.lemmas.Bool.{cases_Bool, and_parts}
use Rattle.std.proofs.lemmas.List.{get_or-append_right, get_or-map, get_or-take, get_or_append_left, length-append, length-map, length-take-le}
use Rattle.svc_line.specs.Bits.{bits_of, is_active, is_dirty}
use Rattle.svc_line.specs.Line.{SeenLine, seen_line}
use Rattle.svc_bus_laws.proofs.Searches.{greatest_cases}
use Rattle.svc_vol.specs.declared.held_line.HeldLine.{HeldLine}
use Rattle.svc_vol.specs.Lines.{UnitLines, is_committed_version, lines_in}
use Rattle.svc_vol.specs.Value.{AreCommitted, SeenHeldLine, ListValue, active_line, active_lines, no_held_line, seen_held_line, unit_at, held_at}
use Rattle.svc_vcl.specs.Listed.{slot_at, is_version, nearest_version_in}
use Rattle.svc_vcl.specs.Planned.{changed_in, copies_in, fresh_beside, is_named, passed_in, relinked_in, unmarked_line}
use Rattle.svc_vcl.proofs.Staling.{kept_apart, kept_from}
use Rattle.svc_retire.specs.Caches.{held_line}
use Rattle.svc_retire.proofs.Dropping.{lines_are}
use Rattle.svc_bus.specs.Value.{BusValue, IsSoundBus}
use Rattle.svc_bus.specs.Marks.{AreHeld}
use Rattle.svc_bus.specs.Stores.{ChangeOnce}
use Rattle.svc_bus.proofs.Knowing.{units_apart, units_known}
use Rattle.svc_bus.proofs.Putting.{has_own}

-- lines of one word by unit, the versions that a list has of them, and the units of the active tasks
module _ (lines : UnitLines) (count : ℕ) (list : ListValue) (units : List ℕ) (committed : AreCommitted lines count list.committed) (shows : map (option_map seen_held_line) list.active ≡ active_lines lines units)
    (distinct : (p q : ℕ) → p < length units → q < length units → get_or units p 0 ≡ get_or units q 0 → p ≡ q) (known : (p : ℕ) → p < length units → get_or units p 0 < count) where
  some_is : {A : Type 0} {x y : A} → ◌≡◌ {A = Option A} (Some x) (Some y) → x ≡ y
  some_is e = cc

  -- the version is its unit's line, which is committed or not
  record IsLine (commit : Bool) (version : HeldLine) : Type 0 where
    within : version.unit.0 < count
    held : lines version.unit.0 ≡ Some (seen_line version.line)
    valid : (seen_line version.line).bits.valid ≡ true
    commits : (seen_line version.line).bits.commit ≡ commit

  of_committed : (k : ℕ) → k < length list.committed → IsLine true (held_at list.committed k)
  of_committed k within =
      let only = committed.only k within in
      let bits = and_parts (seen_line (held_at list.committed k).line).bits.valid (seen_line (held_at list.committed k).line).bits.commit only.committed in
      record { within = only.within; held = only.held; valid = bits.0; commits = bits.1 }

  -- a slot is of the unit of its task
  record IsSlot (place : ℕ) (version : HeldLine) : Type 0 where
    unit_is : version.unit.0 ≡ get_or units place 0
    line : IsLine false version

  sizes : length list.active ≡ length units
  sizes = sym (length-map list.active (option_map seen_held_line)) ∙ ap length shows ∙ length-map units (λ u. active_line u (lines u))

  of_active : (place : ℕ) (version : HeldLine) → place < length units → slot_at list.active place ≡ Some version → IsSlot place version
  of_active place version within is = go (lines (get_or units place 0)) refl
    where
      slot_is : Some (seen_held_line version) ≡ active_line (get_or units place 0) (lines (get_or units place 0))
      slot_is =
          ap (option_map seen_held_line) (sym is)
          ∙ sym (get_or-map (option_map seen_held_line) list.active place None None (omega (arith, within, sizes)))
          ∙ ap (λ (slots : List (Option SeenHeldLine)). get_or slots place None) shows
          ∙ get_or-map (λ u. active_line u (lines u)) units place 0 None within

      go : (line : Option SeenLine) → lines (get_or units place 0) ≡ line → IsSlot place version
      go None none = let e = slot_is ∙ ap (active_line (get_or units place 0)) none in cc
      go (Some l) held = elim (cases_Bool (is_active l.bits)) [
        | inr idle ↦ let e : Some (seen_held_line version) ≡ None = slot_is ∙ ap (active_line (get_or units place 0)) held ∙ rw idle refl in cc
        | inl active ↦
            let same : seen_held_line version ≡ record { unit = get_or units place 0; line = l } = some_is (slot_is ∙ ap (active_line (get_or units place 0)) held ∙ rw active refl) in
            let unit : version.unit.0 ≡ get_or units place 0 = ap (λ (v : SeenHeldLine). v.unit) same in
            let bits = and_parts l.bits.valid (not l.bits.commit) active in
            let shown : seen_line version.line ≡ l = ap (λ (v : SeenHeldLine). v.line) same in
            record {
              unit_is = unit;
              line = record {
                within = subst (λ u. u < count) (sym unit) (known place within);
                held = ap lines unit ∙ held ∙ ap Some (sym shown);
                valid = ap (λ (x : SeenLine). x.bits.valid) shown ∙ bits.0;
                commits = ap (λ (x : SeenLine). x.bits.commit) shown ∙ clear l.bits.commit bits.1;
              };
            }
      ]
        where
          clear : (x : Bool) → not x ≡ true → x ≡ false
          clear true e = sym e
          clear false e = refl

  module _ (writer place : ℕ) (inside : place < length units) (at : get_or units place 0 ≡ writer) where
    below : place ≤ length units
    below = omega (arith, inside)

    abbrev copies : List HeldLine
    copies = copies_in list.committed writer

    abbrev passed : List HeldLine
    passed = passed_in (take place list.active)

    -- a copy that was listed is one of the committed versions, clean, and in another unit
    record IsFresh (version copy : HeldLine) : Type 0 where
      same : version ≡ copy
      other : (version.unit.0 == writer) ≡ false
      clean : is_dirty (bits_of version.line.bits) ≡ false

    is_copy : (version copy : HeldLine) → fresh_beside writer version ≡ Some copy → IsFresh version copy
    is_copy version copy e = go (version.unit.0 == writer) (is_dirty (bits_of version.line.bits)) (bits_of version.line.bits).stale refl refl e
      where
        go : (o d t : Bool) → (version.unit.0 == writer) ≡ o → is_dirty (bits_of version.line.bits) ≡ d → cond (not o && (not d && not t)) (Some version) None ≡ Some copy → IsFresh version copy
        go true d t here dirty e = cc
        go false true t here dirty e = cc
        go false false true here dirty e = cc
        go false false false here dirty e = record { same = some_is e; other = here; clean = dirty }

    copy_line : (k : ℕ) → k < length copies → IsLine true (held_at copies k)
    copy_line k within =
        let from = kept_from (fresh_beside writer) no_held_line list.committed k within in
        subst (IsLine true) ((is_copy (held_at list.committed from.place) (held_at copies k) from.is).same) (of_committed from.place from.within)

    copies_apart : (i j : ℕ) → i < j → j < length copies → unit_at copies i ≢ unit_at copies j
    copies_apart = kept_apart (fresh_beside writer) no_held_line list.committed (λ i j v w less within one two same.
        let first = (is_copy (held_at list.committed i) v one).same in
        let second = (is_copy (held_at list.committed j) w two).same in
        let e = committed.once i j (omega (arith, less, within)) within (ap (λ (x : HeldLine). x.unit.0) first ∙ same ∙ ap (λ (x : HeldLine). x.unit.0) (sym second)) in
        absurd (omega (arith, less, e)))

    -- a line of an earlier task that was listed is one of the active versions
    is_passed : (slot : Option HeldLine) (version : HeldLine) → unmarked_line slot ≡ Some version → slot ≡ Some version
    is_passed None version e = cc
    is_passed (Some own) version e = go (bits_of own.line.bits).stale e
      where
        go : (x : Bool) → cond x None (Some own) ≡ Some version → ◌≡◌ {A = Option HeldLine} (Some own) (Some version)
        go true e = cc
        go false e = e

    earlier_slot : (q : ℕ) (version : HeldLine) → q < length (take place list.active) → unmarked_line (get_or (take place list.active) q None) ≡ Some version → IsSlot q version
    earlier_slot q version within is =
        let short : length (take place list.active) ≡ place = length-take-le place list.active (omega (arith, below, sizes)) in
        of_active q version (omega (arith, within, short, below)) (sym (get_or-take place list.active q None (omega (arith, within, short))) ∙ is_passed (get_or (take place list.active) q None) version is)

    passed_line : (k : ℕ) → k < length passed → IsLine false (held_at passed k)
    passed_line k within =
        let from = kept_from unmarked_line None (take place list.active) k within in
        (earlier_slot from.place (held_at passed k) from.within from.is).line

    passed_apart : (i j : ℕ) → i < j → j < length passed → unit_at passed i ≢ unit_at passed j
    passed_apart = kept_apart unmarked_line None (take place list.active) (λ i j v w less within one two same.
        let short : length (take place list.active) ≡ place = length-take-le place list.active (omega (arith, below, sizes)) in
        let first = earlier_slot i v (omega (arith, less, within)) one in
        let second = earlier_slot j w within two in
        let e = distinct i j (omega (arith, less, within, short, below)) (omega (arith, within, short, below)) (sym first.unit_is ∙ same ∙ second.unit_is) in
        absurd (omega (arith, less, e)))

    -- a line that changes: it is its unit's, in another cache than the writer's, and no purge takes it out
    pub record IsChanged (version : HeldLine) : Type 0 where
      pub within : version.unit.0 < count
      pub held : lines version.unit.0 ≡ Some (seen_line version.line)
      pub valid : (seen_line version.line).bits.valid ≡ true
      pub other : version.unit.0 ≢ writer
      pub kept : is_committed_version (Some (seen_line version.line)) ≡ false

    copy_changed : (k : ℕ) → k < length copies → IsChanged (held_at copies k)
    copy_changed k within =
        let from = kept_from (fresh_beside writer) no_held_line list.committed k within in
        let fresh = is_copy (held_at list.committed from.place) (held_at copies k) from.is in
        let line = copy_line k within in
        record {
          within = line.within;
          held = line.held;
          valid = line.valid;
          other = λ e. true≢false (sym (eq-eqb (held_at copies k).unit.0 writer e) ∙ ap (λ (v : HeldLine). v.unit.0 == writer) (sym fresh.same) ∙ fresh.other);
          kept = clean (seen_line (held_at copies k).line) line.valid (ap (λ (v : HeldLine). is_dirty (bits_of v.line.bits)) (sym fresh.same) ∙ fresh.clean);
        }
      where
        clean : (l : SeenLine) → l.bits.valid ≡ true → (l.bits.valid && l.bits.store) ≡ false → (l.bits.commit && l.bits.store) ≡ false
        clean l valid e = go l.bits.commit l.bits.store (sym (ap (λ v. v && l.bits.store) valid) ∙ e)
          where
            go : (c s : Bool) → s ≡ false → (c && s) ≡ false
            go true s e = e
            go false s e = refl

    slot_changed : (q : ℕ) (version : HeldLine) → q < place → IsSlot q version → IsChanged version
    slot_changed q version low slot = record {
      within = slot.line.within;
      held = slot.line.held;
      valid = slot.line.valid;
      other = λ e. let same = distinct q place (omega (arith, low, inside)) inside (sym slot.unit_is ∙ e ∙ sym at) in absurd (omega (arith, same, low));
      kept = ap (λ c. c && (seen_line version.line).bits.store) slot.line.commits;
    }

    -- where an earlier task's line comes from, and that it has no T
    record IsPassed (version : HeldLine) : Type 0 where
      place_of : ℕ
      low : place_of < place
      slot : IsSlot place_of version
      fresh : (bits_of version.line.bits).stale ≡ false

    fresh_of : (slot : Option HeldLine) (version : HeldLine) → unmarked_line slot ≡ Some version → (bits_of version.line.bits).stale ≡ false
    fresh_of None version e = cc
    fresh_of (Some own) version e = go (bits_of own.line.bits).stale refl e
      where
        go : (x : Bool) → (bits_of own.line.bits).stale ≡ x → cond x None (Some own) ≡ Some version → (bits_of version.line.bits).stale ≡ false
        go true is e = cc
        go false is e = ap (λ (v : HeldLine). (bits_of v.line.bits).stale) (sym (some_is e)) ∙ is

    passed_from : (k : ℕ) → k < length passed → IsPassed (held_at passed k)
    passed_from k within =
        let from = kept_from unmarked_line None (take place list.active) k within in
        let short : length (take place list.active) ≡ place = length-take-le place list.active (omega (arith, below, sizes)) in
        let low = from.within in
        record {
          place_of = from.place;
          low = omega (arith, low, short);
          slot = earlier_slot from.place (held_at passed k) from.within from.is;
          fresh = fresh_of (get_or (take place list.active) from.place None) (held_at passed k) from.is;
        }

    -- a committed line and an active one are of different units
    crossed : (v w : HeldLine) → IsLine true v → IsLine false w → v.unit.0 ≢ w.unit.0
    crossed v w one two same =
        let e : seen_line v.line ≡ seen_line w.line = some_is (sym one.held ∙ ap lines same ∙ two.held) in
        absurd (true≢false (sym one.commits ∙ ap (λ (x : SeenLine). x.bits.commit) e ∙ two.commits))

    -- ---- the version before, where it has T

    abbrev linked : List HeldLine
    linked = relinked_in (nearest_version_in list.active place)

    record IsPrevious (version : HeldLine) : Type 0 where
      place_of : ℕ
      low : place_of < place
      slot : IsSlot place_of version
      stale : (bits_of version.line.bits).stale ≡ true

    one_at_most : (x : Bool) (v : HeldLine) → length (cond x (v ∷ []) []) ≤ 1
    one_at_most true v = omega arith
    one_at_most false v = omega arith

    few_of : (slot : Option HeldLine) → length (relinked_in slot) ≤ 1
    few_of None = omega arith
    few_of (Some v) = one_at_most (bits_of v.line.bits).stale v

    lone : (x : Bool) (v : HeldLine) (j : ℕ) → j < length (cond x (v ∷ []) []) → (x ≡ true) × (held_at (cond x (v ∷ []) []) j ≡ v)
    lone false v j h = absurd (omega (arith, h))
    lone true v zero h = (refl, refl)
    lone true v (suc j) h = absurd (omega (arith, h))

    empty_of : (o : Option HeldLine) (j : ℕ) → o ≡ None → j < length (relinked_in o) → ⊥
    empty_of None j e h = omega (arith, h)
    empty_of (Some v) j e h = cc

    previous_of : (q : ℕ) → q < place → (slot : Option HeldLine) → slot_at list.active q ≡ slot → nearest_version_in list.active place ≡ slot_at list.active q → (j : ℕ) → j < length linked → IsPrevious (held_at linked j)
    previous_of q low None is near j h = absurd (empty_of (nearest_version_in list.active place) j (near ∙ is) h)
    previous_of q low (Some v) is near j h =
        let all : linked ≡ relinked_in (Some v) = ap relinked_in (near ∙ is) in
        let one = lone (bits_of v.line.bits).stale v j (subst (λ (vs : List HeldLine). j < length vs) all h) in
        let same : held_at linked j ≡ v = ap (λ (vs : List HeldLine). held_at vs j) all ∙ one.1 in
        subst IsPrevious (sym same) (record { place_of = q; low = low; slot = of_active q v (omega (arith, low, inside)) is; stale = one.0 })

    linked_from : (k : ℕ) → k < length linked → IsPrevious (held_at linked k)
    linked_from k within = elim (greatest_cases place (λ q. is_version (slot_at list.active q))) [
      | inl (none, never) ↦ absurd (empty_of (nearest_version_in list.active place) k (ap (option_and_then (slot_at list.active)) none) within)
      | inr (q, is, low, pass, after) ↦ previous_of q low (slot_at list.active q) refl (ap (option_and_then (slot_at list.active)) is) k within
    ]

    -- ---- all of them

    abbrev stale : List HeldLine
    stale = copies ++ passed

    abbrev all : List HeldLine
    all = changed_in list writer place

    sides : (x y : ℕ) → (x < y) ⊎ (y ≤ x)
    sides x y = grind arith

    at_copy : (k : ℕ) → k < length copies → held_at stale k ≡ held_at copies k
    at_copy k within = get_or_append_left copies passed no_held_line k within

    at_passed : (k : ℕ) → length copies ≤ k → held_at stale k ≡ held_at passed (k - length copies)
    at_passed k past = get_or-append_right copies passed (length copies) k no_held_line refl past

    rest : (k : ℕ) → k < length stale → length copies ≤ k → k - length copies < length passed
    rest k within past = let both = length-append copies passed in omega (arith, within, past, both)

    at_stale : (k : ℕ) → k < length stale → held_at all k ≡ held_at stale k
    at_stale k within = get_or_append_left stale linked no_held_line k within

    at_linked : (k : ℕ) → length stale ≤ k → held_at all k ≡ held_at linked (k - length stale)
    at_linked k past = get_or-append_right stale linked (length stale) k no_held_line refl past

    last : (k : ℕ) → k < length all → length stale ≤ k → k - length stale < length linked
    last k within past = let both = length-append stale linked in omega (arith, within, past, both)

    pub changed_is : (k : ℕ) → k < length all → IsChanged (held_at all k)
    changed_is k within = elim (sides k (length stale)) [
      | inl early ↦ elim (sides k (length copies)) [
        | inl before ↦ subst IsChanged (sym (at_stale k early ∙ at_copy k before)) (copy_changed k before)
        | inr past ↦ let from = passed_from (k - length copies) (rest k early past) in subst IsChanged (sym (at_stale k early ∙ at_passed k past)) (slot_changed from.place_of _ from.low from.slot)
      ]
      | inr late ↦ let from = linked_from (k - length stale) (last k within late) in subst IsChanged (sym (at_linked k late)) (slot_changed from.place_of _ from.low from.slot)
    ]

    stale_apart : (i j : ℕ) → i < j → j < length stale → unit_at stale i ≢ unit_at stale j
    stale_apart i j less within same = elim (sides j (length copies)) [
      | inl before ↦
          copies_apart i j less before (ap (λ (x : HeldLine). x.unit.0) (sym (at_copy i (omega (arith, less, before)))) ∙ same ∙ ap (λ (x : HeldLine). x.unit.0) (at_copy j before))
      | inr past ↦ elim (sides i (length copies)) [
        | inl before ↦ crossed (held_at copies i) (held_at passed (j - length copies)) (copy_line i before) (passed_line (j - length copies) (rest j within past))
            (ap (λ (x : HeldLine). x.unit.0) (sym (at_copy i before)) ∙ same ∙ ap (λ (x : HeldLine). x.unit.0) (at_passed j past))
        | inr also ↦ passed_apart (i - length copies) (j - length copies) (omega (arith, less, past, also)) (rest j within past)
            (ap (λ (x : HeldLine). x.unit.0) (sym (at_passed i also)) ∙ same ∙ ap (λ (x : HeldLine). x.unit.0) (at_passed j past))
      ]
    ]

    -- a line without T and one with it are of different units
    faded : (v w : HeldLine) → IsPassed v → IsPrevious w → v.unit.0 ≢ w.unit.0
    faded v w one two same =
        let e : seen_line v.line ≡ seen_line w.line = some_is (sym one.slot.line.held ∙ ap lines same ∙ two.slot.line.held) in
        absurd (true≢false (sym two.stale ∙ ap (λ (x : SeenLine). x.bits.stale) (sym e) ∙ one.fresh))

    -- no two are of one unit
    pub changed_apart : (i j : ℕ) → i < j → j < length all → unit_at all i ≢ unit_at all j
    changed_apart i j less within same = elim (sides j (length stale)) [
      | inl early ↦ stale_apart i j less early (ap (λ (x : HeldLine). x.unit.0) (sym (at_stale i (omega (arith, less, early)))) ∙ same ∙ ap (λ (x : HeldLine). x.unit.0) (at_stale j early))
      | inr late ↦
          let few = few_of (nearest_version_in list.active place) in
          let place_j = last j within late in
          let both = length-append stale linked in
          let early : i < length stale = omega (arith, less, within, both, few) in
          let from = linked_from (j - length stale) place_j in
          let there : unit_at stale i ≡ (held_at linked (j - length stale)).unit.0 = ap (λ (x : HeldLine). x.unit.0) (sym (at_stale i early)) ∙ same ∙ ap (λ (x : HeldLine). x.unit.0) (at_linked j late) in
          elim (sides i (length copies)) [
            | inl before ↦ crossed (held_at copies i) (held_at linked (j - length stale)) (copy_line i before) from.slot.line (ap (λ (x : HeldLine). x.unit.0) (sym (at_copy i before)) ∙ there)
            | inr past ↦ faded (held_at passed (i - length copies)) (held_at linked (j - length stale)) (passed_from (i - length copies) (rest i early past)) from (ap (λ (x : HeldLine). x.unit.0) (sym (at_passed i past)) ∙ there)
          ]
    ]

-- the lines that a write changes in a bus
module _ (b : BusValue) (sound : IsSoundBus b) (place word writer : ℕ) (within : place < length b.units) (at : get_or b.units place 0 ≡ writer) (list : ListValue)
    (committed : AreCommitted (lines_in b.caches word) (length b.caches) list.committed) (shows : map (option_map seen_held_line) list.active ≡ active_lines (lines_in b.caches word) b.units) where
  abbrev changed : List HeldLine
  changed = changed_in list writer place

  record IsOther (k : ℕ) : Type 0 where
    known : unit_at changed k < length b.caches
    held : held_line b.caches (unit_at changed k) word ≡ Some (seen_line (held_at changed k).line)
    valid : (seen_line (held_at changed k).line).bits.valid ≡ true
    other : unit_at changed k ≢ writer
    kept : is_committed_version (Some (seen_line (held_at changed k).line)) ≡ false

  each : (k : ℕ) → k < length changed → IsOther k
  each k below =
      let is = changed_is (lines_in b.caches word) (length b.caches) list b.units committed shows (units_apart b sound) (units_known b sound) writer place within at k below in
      record { known = is.within; held = sym (lines_are b.caches word (unit_at changed k)) ∙ is.held; valid = is.valid; other = is.other; kept = is.kept }

  pub changed_once : ChangeOnce b.caches writer word (changed_in list writer place)
  changed_once = record {
    others = elim (cases_Bool (is_named changed writer)) [
      | inr none ↦ none
      | inl named ↦ let own = has_own changed writer named in absurd ((each own.0 own.1).other own.2)
    ];
    apart = λ u named.
        let own = has_own changed u named in
        let is = each own.0 own.1 in
        ap (λ v. is_committed_version (held_line b.caches v word)) (sym own.2) ∙ ap is_committed_version is.held ∙ is.kept;
  }

  pub changed_held : AreHeld b.caches word (changed_in list writer place)
  changed_held = record {
    each = λ k below. let is = each k below in record { within = is.known; held = is.held; valid = is.valid };
    apart = record { apart = changed_apart (lines_in b.caches word) (length b.caches) list b.units committed shows (units_apart b sound) (units_known b sound) writer place within at };
  }
