-- The links that a write sets, and the version before the written one.
use Rattle.std.proofs.Common.{◌≡◌, ◌∙◌, refl, sym, ap, ap₂, ℕ, zero, suc, ◌+◌, ◌<◌, ◌≤◌, Bool, true, false, cond, not, ◌&&◌, ◌||◌, ltb, le-ltb, Option, Some, None, List, [], ◌∷◌, length, get_or, is_some, inl, inr, arith, true≢false}
use Rattle.std.specs.Prelude.{option_and_then}
use Rattle.std.specs.Bool.{◌==◌}
use Rattle.std.proofs.lemmas.Bool.{and_parts, cases_Bool, eq-eqb, eqb-true}
use Rattle.std.proofs.lemmas.List.Folds.{list_any-append}
use Rattle.svc_line.specs.Bits.{bits_of}
use Rattle.svc_bus_laws.specs.Search.{least}
use Rattle.svc_bus_laws.specs.LineTable.{LineTable}
use Rattle.svc_bus_laws.specs.BusLine.{BusLine, purged_line, version_of_line}
use Rattle.svc_bus_laws.specs.BusState.{BusState}
use Rattle.svc_bus_laws.specs.BusView.{bus_line_at}
use Rattle.svc_bus_laws.proofs.Searches.{any_found, greatest_cases, least_cases}
use Rattle.svc_links_laws.specs.LinkSteps.{place_after, place_before, unit_of}
use Rattle.svc_vol.specs.declared.held_line.HeldLine.{HeldLine}
use Rattle.svc_vol.specs.Value.{ListValue}
use Rattle.svc_vcl.specs.Listed.{slot_at, is_version, nearest_version_in, next_in, next_version_in}
use Rattle.svc_vcl.specs.Described.{IsSlotOf, IsRequest, line_shown}
use Rattle.svc_vcl.specs.Planned.{changed_in, is_copy_of, is_named, is_passed_in, is_unmarked_in, marked_where, relinked_in, stale_in, unit_in}
use Rattle.svc_vcl.proofs.Slots.{nearest_is, version_here}
use Rattle.svc_vcl.proofs.Staling.{stale_named_in}

-- ---- the search for the next version

pub none_past : (active : List (Option HeldLine)) (place k : ℕ) → k < place + 1 → (ltb place k && is_version (slot_at active k)) ≡ false
none_past active place k h = ap (λ x. x && is_version (slot_at active k)) (le-ltb place k (let low : k ≤ place = omega (arith, h) in low))

pub not_here : (active : List (Option HeldLine)) (place k : ℕ) → is_version (slot_at active k) ≡ false → (ltb place k && is_version (slot_at active k)) ≡ false
not_here active place k fail = go (ltb place k) (is_version (slot_at active k)) fail
  where
    go : (x y : Bool) → y ≡ false → (x && y) ≡ false
    go true y e = e
    go false y e = refl

-- ---- the units of slots

least_same : (n : ℕ) (p q : ℕ → Bool) → ((k : ℕ) → k < n → p k ≡ q k) → least n p ≡ least n q
least_same zero p q same = refl
least_same (suc n) p q same = rw (least_same n p q (λ k h. same k (omega (arith, h))), same n (omega arith))

-- a slot that is a version is there
there : (slot : Option HeldLine) → is_version slot ≡ true → (v : HeldLine) × (slot ≡ Some v)
there None e = absurd (true≢false (sym e))
there (Some v) e = (v, refl)

module _ (b : BusState) (t : LineTable) (a : ℕ) (list : ListValue) (unit place : ℕ) (request : IsRequest b t a list unit place) where
  slot_unit : (q : ℕ) → q < length b.units → is_version (slot_at list.active q) ≡ true → unit_in (slot_at list.active q) ≡ Some (get_or b.units q 0)
  slot_unit q within version = let found = there (slot_at list.active q) version in go (slot_at list.active q) found.0 found.1 (request.described.active q within)
    where
      go : (slot : Option HeldLine) (v : HeldLine) → slot ≡ Some v → IsSlotOf b a (get_or b.units q 0) slot → unit_in slot ≡ Some (get_or b.units q 0)
      go None v is held = cc
      go (Some w) v is held = ap Some held.unit_is

  pub next_unit : (count : ℕ) → count ≤ length b.units → unit_in (next_version_in list.active count place) ≡ unit_of b.units (place_after count (λ q. is_some (version_of_line (bus_line_at b q a))) place)
  next_unit count few = elim (least_cases count (λ q. ltb place q && is_version (slot_at list.active q))) [
    | inl (none, never) ↦ ap (λ o. unit_in (option_and_then (slot_at list.active) o)) none ∙ ap (unit_of b.units) (sym none ∙ same)
    | inr (q, is, found) ↦
        let parts = and_parts (ltb place q) _ found.passes in
        ap (λ o. unit_in (option_and_then (slot_at list.active) o)) is
        ∙ slot_unit q (let low = found.within in omega (arith, low, few)) parts.1
        ∙ ap (unit_of b.units) (sym is ∙ same)
  ]
    where
      same : next_in list.active count place ≡ place_after count (λ q. is_some (version_of_line (bus_line_at b q a))) place
      same = least_same count _ _ (λ q h. ap (λ x. ltb place q && x) (version_here b t a list unit place request q (omega (arith, h, few))))

  pub previous_unit : unit_in (nearest_version_in list.active place) ≡ unit_of b.units (place_before (λ q. is_some (version_of_line (bus_line_at b q a))) place)
  previous_unit = elim (greatest_cases place (λ q. is_version (slot_at list.active q))) [
    | inl (none, never) ↦ ap (λ o. unit_in (option_and_then (slot_at list.active) o)) none ∙ ap (unit_of b.units) (sym none ∙ nearest_is b t a list unit place request)
    | inr (q, is, within, pass, after) ↦
        ap (λ o. unit_in (option_and_then (slot_at list.active) o)) is
        ∙ slot_unit q (let low = request.within in omega (arith, within, low)) pass
        ∙ ap (unit_of b.units) (sym is ∙ nearest_is b t a list unit place request)
  ]

  -- a version that is linked and not marked has T already
  pub relinked_stale : (other : ℕ) (l : BusLine) → is_named (relinked_in (nearest_version_in list.active place)) other ≡ true → b.lines other a ≡ Some l → l.stale ≡ true
  relinked_stale other l named held = elim (greatest_cases place (λ q. is_version (slot_at list.active q))) [
    | inl (none, never) ↦ absurd (true≢false (sym named ∙ ap (λ o. is_named (relinked_in (option_and_then (slot_at list.active) o)) other) none))
    | inr (q, is, within, pass, after) ↦ go (slot_at list.active q) (get_or b.units q 0) (request.described.active q (let low = request.within in omega (arith, within, low))) (sym (ap (λ o. is_named (relinked_in (option_and_then (slot_at list.active) o)) other) is) ∙ named)
  ]
    where
      some_line : {x y : BusLine} → ◌≡◌ {A = Option BusLine} (Some x) (Some y) → x ≡ y
      some_line e = cc

      lone : (x : Bool) (v : HeldLine) → is_named (cond x (v ∷ []) []) other ≡ true → (x ≡ true) × (v.unit.0 ≡ other)
      lone false v e = absurd (true≢false (sym e))
      lone true v e = (refl, eqb-true v.unit.0 other (first (v.unit.0 == other) e))
        where
          first : (x : Bool) → (x || false) ≡ true → x ≡ true
          first true e = refl
          first false e = e

      go : (slot : Option HeldLine) (w : ℕ) → IsSlotOf b a w slot → is_named (relinked_in slot) other ≡ true → l.stale ≡ true
      go None w is e = absurd (true≢false (sym e))
      go (Some v) w is e =
          let k = lone (bits_of v.line.bits).stale v e in
          let same : line_shown v ≡ l = some_line (sym is.held ∙ ap (λ u. b.lines u a) (sym is.unit_is ∙ k.1) ∙ held) in
          ap (λ (x : BusLine). x.stale) (sym same) ∙ k.0

  abbrev relinked : ℕ → Bool
  relinked other = is_named (relinked_in (nearest_version_in list.active place)) other

  -- so it makes no difference to the lines whether it is marked again
  pub marked_again : (other : ℕ) (stale cut : Bool) → marked_where stale (purged_line (cond cut None (b.lines other a))) ≡ marked_where (stale || is_named (relinked_in (nearest_version_in list.active place)) other) (purged_line (cond cut None (b.lines other a)))
  marked_again other stale true = refl
  marked_again other stale false = line (b.lines other a) refl
    where
      flags : (s m n : Bool) → (n ≡ true → s ≡ true) → (s || m) ≡ (s || (m || n))
      flags true m n says = refl
      flags false true n says = refl
      flags false false true says = absurd (true≢false (sym (says refl)))
      flags false false false says = refl

      line : (o : Option BusLine) → b.lines other a ≡ o → marked_where stale (purged_line o) ≡ marked_where (stale || relinked other) (purged_line o)
      line None held = refl
      line (Some l) held = go (l.commit && l.store)
        where
          go : (x : Bool) → marked_where stale (cond x None (Some l)) ≡ marked_where (stale || relinked other) (cond x None (Some l))
          go true = refl
          go false = ap (λ x. Some (record l { stale = x })) (flags l.stale stale (relinked other) (λ e. relinked_stale other l e held))

-- ---- the version before is one of the lines that change

pub changed_named : (list : ListValue) (writer place other : ℕ) → is_named (changed_in list writer place) other ≡ (is_named (stale_in list writer place) other || is_named (relinked_in (nearest_version_in list.active place)) other)
changed_named list writer place other = list_any-append (λ (version : HeldLine). version.unit.0 == other) (stale_in list writer place) (relinked_in (nearest_version_in list.active place))

pub previous_named : (list : ListValue) (writer place other : ℕ) → place ≤ length list.active → unit_in (nearest_version_in list.active place) ≡ Some other → is_named (changed_in list writer place) other ≡ true
previous_named list writer place other within named = changed_named list writer place other ∙ elim (greatest_cases place (λ q. is_version (slot_at list.active q))) [
  | inl (none, never) ↦ nothing (sym (ap (λ o. unit_in (option_and_then (slot_at list.active) o)) none) ∙ named)
  | inr (q, is, low, pass, after) ↦
      ap₂ (λ x (o : Option ℕ). x || is_named (relinked_in (option_and_then (slot_at list.active) o)) other) (stale_named_in list writer place other within) is
      ∙ go q low (slot_at list.active q) refl (sym (ap (λ o. unit_in (option_and_then (slot_at list.active) o)) is) ∙ named)
]
  where
    nothing : {x : Bool} → ◌≡◌ {A = Option ℕ} None (Some other) → x ≡ true
    nothing e = cc

    some_is : {x y : ℕ} → ◌≡◌ {A = Option ℕ} (Some x) (Some y) → x ≡ y
    some_is e = cc

    right : (x y : Bool) → y ≡ true → (x || y) ≡ true
    right true y e = refl
    right false y e = e

    left : (x y z : Bool) → y ≡ true → ((x || y) || z) ≡ true
    left true y z e = refl
    left false y z e = ap (λ w. w || z) e

    lone : (v : HeldLine) → v.unit.0 ≡ other → is_named (v ∷ []) other ≡ true
    lone v e = ap (λ x. x || false) (eq-eqb v.unit.0 other e)

    go : (q : ℕ) → q < place → (slot : Option HeldLine) → slot_at list.active q ≡ slot → unit_in slot ≡ Some other → ((is_copy_of list.committed (length list.committed) writer other || is_passed_in list.active place other) || is_named (relinked_in slot) other) ≡ true
    go q low None is e = nothing e
    go q low (Some v) is e = elim (cases_Bool (bits_of v.line.bits).stale) [
      | inl stale ↦ right (is_copy_of list.committed (length list.committed) writer other || is_passed_in list.active place other) (is_named (relinked_in (Some v)) other) (ap (λ x. is_named (cond x (v ∷ []) []) other) stale ∙ lone v (some_is e))
      | inr fresh ↦ left (is_copy_of list.committed (length list.committed) writer other) (is_passed_in list.active place other) (is_named (relinked_in (Some v)) other) (any_found place (λ k. is_unmarked_in (slot_at list.active k) other) q low (ap (λ o. is_unmarked_in o other) is ∙ ap₂ (λ x y. not x && y) fresh (eq-eqb v.unit.0 other (some_is e))))
    ]
