-- Who supplies a read.
use Rattle.std.proofs.Common.{◌≡◌, ◌⊎◌, refl, sym, ap, ◌∙◌, ℕ, suc, ◌<◌, Some, None, true, false, Bool, cond, not, ◌&&◌, Option, length, inl, inr, arith, true≢false, is_some}
use Rattle.std.specs.Bool.{◌==◌}
use Rattle.std.specs.Option.{option_or}
use Rattle.std.proofs.lemmas.Bool.{cases_Bool}
use Rattle.svc_bus_laws.specs.Search.{greatest}
use Rattle.svc_bus_laws.specs.Versioned.{view}
use Rattle.svc_bus_laws.specs.LineTable.{Line, LineTable, is_active, version_in, is_reusable, value_in, line_at, newest, committed_value, own_version, versioned_map}
use Rattle.svc_bus_laws.specs.Supplier.{is_spill, Spill, supplier, supplied_value, by_version, by_committed}
use Rattle.svc_bus_laws.specs.Sound.{IsSound}
use Rattle.svc_bus_laws.proofs.Searches.{cases_below, greatest_cases}
use Rattle.svc_bus_laws.proofs.Maps.{latest_at, latest_none}
use Rattle.svc_bus_laws.proofs.Tables.{view_is, no_version, own_above}
use Rattle.svc_bus_laws.proofs.ReadLaws.{hit_value, reuse_value}

pub own_value : (t : LineTable) (p a : ℕ) → IsSound t → p < length t.units → (is_active (line_at t p a) ≡ true) ⊎ (is_reusable (line_at t p a) ≡ true) → value_in (line_at t p a) ≡ view (versioned_map t) p a
own_value t p a sound within (inl hit) = hit_value t p a sound within hit
own_value t p a sound within (inr reusable) = reuse_value t p a sound within reusable

version_value : (line : Option Line) → is_some (version_in line) ≡ true → version_in line ≡ Some (value_in line)
version_value None e = absurd (true≢false (sym e))
version_value (Some l) e = go (not l.commit && l.store) e
  where
    go : (b : Bool) → is_some (cond b (Some l.value) None) ≡ true → cond b (Some l.value) None ≡ Some l.value
    go true e = refl
    go false e = absurd (true≢false (sym e))

none_from : {A : Type 0} (o : Option A) → is_some o ≡ false → o ≡ None
none_from None e = refl
none_from (Some x) e = absurd (true≢false e)

module _ (t : LineTable) (p a : ℕ) (sound : IsSound t) (within : p < length t.units) where
  abbrev dirty : ℕ → Bool
  dirty q = is_some (version_in (line_at t q a))

  module _ (miss : is_active (line_at t p a) ≡ false) where
    -- the reader has no active line, so a version at or below its place is an active dirty line below, or the spilled value
    none_here : version_in (line_at t p a) ≡ None
    none_here = no_version (line_at t p a) miss

    found_value : supplied_value t p a (by_version t a (greatest p dirty)) ≡ Some (view (versioned_map t) p a)
    found_value = elim (greatest_cases p dirty) [
      | inr (m, is, below, pass, after) ↦
          let own : own_version t m a ≡ Some (value_in (line_at t m a)) = ap (λ o. option_or o (cond (m == 0) (t.spill a) None)) (version_value (line_at t m a) pass) in
          rw is (ap Some (sym (view_is t p a within ∙ latest_at _ _ (suc p) m _ (omega (arith, below)) own (λ k h i.
          own_above t k a (omega (arith, h)) ∙ elim (cases_below k p i) [
            | inl lt ↦ none_from _ (after k h lt)
            | inr e ↦ rw e none_here
          ]))))
      | inl (none, never) ↦ rw none (spilled_or_not (t.spill a) refl (λ k h. elim (cases_below k p h) [ inl lt ↦ none_from _ (never k lt) | inr e ↦ rw e none_here ]))
    ]
      where
        spilled_or_not : (o : Option ℕ) → t.spill a ≡ o → ((k : ℕ) → k < suc p → version_in (line_at t k a) ≡ None) → supplied_value t p a (cond (is_some (t.spill a)) Spill (by_committed (newest t a))) ≡ Some (view (versioned_map t) p a)
        spilled_or_not (Some s) e clean =
            let own : own_version t 0 a ≡ Some s = ap (λ o. option_or o (t.spill a)) (clean 0 (omega arith)) ∙ e in
            ap (λ x. supplied_value t p a (cond (is_some x) Spill (by_committed (newest t a)))) e
            ∙ e ∙ ap Some (sym (view_is t p a within ∙ latest_at _ _ (suc p) 0 s (omega arith) own (λ k h i. own_above t k a (omega (arith, h)) ∙ clean k i)))
        spilled_or_not None e clean =
            let view' : view (versioned_map t) p a ≡ committed_value t a = view_is t p a within ∙ latest_none _ _ (suc p) (λ k h. ap (λ o. option_or o (cond (k == 0) (t.spill a) None)) (clean k h) ∙ ap (λ o. option_or None (cond (k == 0) o None)) e ∙ none_both (k == 0)) in
            ap (λ x. supplied_value t p a (cond (is_some x) Spill (by_committed (newest t a)))) e ∙ at_newest (newest t a) refl ∙ ap Some (sym view')
          where
            none_both : (x : Bool) → cond {A = Option ℕ} x None None ≡ None
            none_both true = refl
            none_both false = refl

            at_newest : (o : Option ℕ) → newest t a ≡ o → supplied_value t p a (by_committed (newest t a)) ≡ Some (committed_value t a)
            at_newest None e = rw e
            at_newest (Some u) e = rw e

  pub supplier_value : supplied_value t p a (supplier t p a) ≡ Some (view (versioned_map t) p a)
  supplier_value = elim (cases_Bool (is_active (line_at t p a))) [
    | inl hit ↦ rw hit (ap Some (hit_value t p a sound within hit))
    | inr miss ↦ elim (cases_Bool (is_reusable (line_at t p a))) [
      | inl reusable ↦ rw (miss, reusable) (ap Some (reuse_value t p a sound within reusable))
      | inr other ↦ rw (miss, other) (found_value miss)
    ]
  ]

pub spill_supplies : (t : LineTable) (a : ℕ) → is_active (line_at t 0 a) ≡ false → is_reusable (line_at t 0 a) ≡ false → is_spill (supplier t 0 a) ≡ is_some (t.spill a)
spill_supplies t a miss other = rw (miss, other) (either (is_some (t.spill a)) (newest t a))
  where
    either : (x : Bool) (o : Option ℕ) → is_spill (cond x Spill (by_committed o)) ≡ x
    either true o = refl
    either false None = refl
    either false (Some u) = refl
