-- What every state that callers see satisfies, and that its look-ups decide nothing.
use Rattle.std.proofs.Common.{◌⊎◌, inr, inl, ◌≡◌, refl, sym, ap, ◌∙◌, ℕ, ◌<◌, ◌≤◌, true, Some, None, Option, length, get_or, is_some, arith, subst}
use Rattle.svc_bus_laws.specs.LineTable.{Line, LineTable, line_at}
use Rattle.svc_bus_laws.specs.Sound.{IsSound}
use Rattle.svc_bus_laws.specs.Supplier.{Supplier, Hit, Reuse, Version, Spill, Committed, Memory, supplier, supplied_value}
use Rattle.svc_bus_laws.specs.BusLine.{is_active_line, is_committed_dirty_line, value_of_line}
use Rattle.svc_bus_laws.specs.BusState.{BusState, SameBus, Agrees, without_number}
use Rattle.svc_bus_laws.specs.BusView.{bus_supplier, bus_supplied, bus_view}
use Rattle.svc_bus_laws.specs.SoundState.{IsSpilledState, IsSoundState}
use Rattle.svc_bus_laws.proofs.ReadLaws.{active_parts}
use Rattle.svc_bus_laws.proofs.SupplierLaws.{supplier_value}
use Rattle.svc_bus_laws.proofs.SeenLaws.{active_line_is, committed_line_is, value_line_is, unit_is, line_is, version_seen, supplier_seen, view_seen}

pub same_agrees : (b c : BusState) (t : LineTable) → SameBus b c → Agrees b t → Agrees c t
same_agrees b c t same agrees = record {
  sound = agrees.sound;
  caches = sym same.caches ∙ agrees.caches;
  sets = sym same.sets ∙ agrees.sets;
  ways = sym same.ways ∙ agrees.ways;
  words = sym same.words ∙ agrees.words;
  lines = λ u a. sym (same.lines u a) ∙ agrees.lines u a;
  order = λ a u v. sym (same.order a u v) ∙ agrees.order a u v;
  spill = λ a. sym (same.spill a) ∙ agrees.spill a;
  backing = λ a. sym (same.backing a) ∙ agrees.backing a;
  commits = sym same.commits ∙ agrees.commits;
  units = sym same.units ∙ agrees.units;
}

-- a line that would lie outside is none
outside : (t : LineTable) (u a : ℕ) → IsSound t → ((t.caches ≤ u) ⊎ (t.words ≤ a)) → t.lines u a ≡ None
outside t u a sound past = go (t.lines u a) refl
  where
    go : (line : Option Line) → t.lines u a ≡ line → t.lines u a ≡ None
    go None e = e
    go (Some l) e = let old = sound.sound_lines u a l e in elim past [
      | inl high ↦ absurd (omega (arith, high, old.cached))
      | inr high ↦ absurd (omega (arith, high, old.in_memory))
    ]

module _ (b : BusState) (t : LineTable) (agrees : Agrees b t) where
  within : (p : ℕ) → p < length b.units → p < length t.units
  within p h = subst (λ us. p < length us) agrees.units h

  none_at : (u a : ℕ) → t.lines u a ≡ None → b.lines u a ≡ None
  none_at u a e = agrees.lines u a ∙ ap without_number e

  working : (u a : ℕ) → is_active_line (b.lines u a) ≡ true → (p : ℕ) × (p < length b.units) × (get_or b.units p 0 ≡ u)
  working u a e =
      let l = active_parts (t.lines u a) (sym (ap is_active_line (agrees.lines u a) ∙ active_line_is (t.lines u a)) ∙ e) in
      let k = (agrees.sound.sound_lines u a l.0 l.1).active l.2 in
      (k.0, subst (λ us. k.0 < length us) (sym agrees.units) k.2.within, unit_is b t agrees k.0 ∙ k.1)

  spilled_state : (a : ℕ) → is_some (b.spill a) ≡ true → IsSpilledState b a
  spilled_state a some =
      let old = agrees.sound.sound_spills a (sym (ap is_some (agrees.spill a)) ∙ some) in
      record {
        in_memory = subst (λ n. a < n) (sym agrees.words) old.in_memory;
        has_head = subst (λ us. 0 < length us) (sym agrees.units) old.has_head;
        replaced = version_seen b t agrees 0 a ∙ old.replaced;
        purged = λ u. ap is_committed_dirty_line (agrees.lines u a) ∙ committed_line_is (t.lines u a) ∙ old.purged u;
      }

  state_sound : IsSoundState b
  state_sound = record {
    distinct_units = λ p q h k e. agrees.sound.distinct_units p q (within p h) (within q k) (sym (unit_is b t agrees p) ∙ e ∙ unit_is b t agrees q);
    known_units = λ p h. rw (unit_is b t agrees p, agrees.caches) (agrees.sound.known_units p (within p h));
    cached = λ u a h. none_at u a (outside t u a agrees.sound (inl (subst (λ n. n ≤ u) agrees.caches h)));
    in_memory = λ u a h. none_at u a (outside t u a agrees.sound (inr (subst (λ n. n ≤ a) agrees.words h)));
    at_work = working;
    spilled = spilled_state;
  }

  supplied_is : (p a : ℕ) (s : Supplier) → bus_supplied b p a s ≡ supplied_value t p a s
  supplied_is p a Hit = ap Some (ap value_of_line (line_is b t agrees p a) ∙ value_line_is (line_at t p a))
  supplied_is p a Reuse = ap Some (ap value_of_line (line_is b t agrees p a) ∙ value_line_is (line_at t p a))
  supplied_is p a (Version u) = ap Some (ap value_of_line (agrees.lines u a) ∙ value_line_is (t.lines u a))
  supplied_is p a Spill = agrees.spill a
  supplied_is p a (Committed u) = ap Some (ap value_of_line (agrees.lines u a) ∙ value_line_is (t.lines u a))
  supplied_is p a Memory = ap Some (agrees.backing a)

pub sound_seen : (b : BusState) (t : LineTable) → Agrees b t → IsSoundState b
sound_seen b t agrees = state_sound b t agrees

pub supplied_seen : (b : BusState) (t : LineTable) (p a : ℕ) → Agrees b t → p < length b.units → bus_supplied b p a (bus_supplier b p a) ≡ Some (bus_view b p a)
supplied_seen b t p a agrees h =
    ap (bus_supplied b p a) (supplier_seen b t p a agrees)
    ∙ supplied_is b t agrees p a (supplier t p a)
    ∙ supplier_value t p a agrees.sound (within b t agrees p h)
    ∙ sym (ap Some (view_seen b t p a agrees))
