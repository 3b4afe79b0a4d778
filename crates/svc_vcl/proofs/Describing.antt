-- A list of the lines in the caches describes the bus whose lines they are.
use Rattle.std.proofs.Common.{◌≡◌, ◌∙◌, refl, sym, ap, ℕ, ◌<◌, true, false, not, ◌&&◌, Option, Some, None, List, length, map, get_or, option_map, inl, inr, arith, true≢false}
use Rattle.std.proofs.lemmas.Bool.{cases_Bool}
use Rattle.std.proofs.lemmas.List.{get_or-map, length-map}
use Rattle.svc_line.specs.Bits.{bits_of, is_active}
use Rattle.svc_line.specs.Line.{SeenLine, seen_line}
use Rattle.svc_cache.specs.Lines as cache
use Rattle.svc_bus_laws.specs.BusLine.{is_active_line, is_committed_line}
use Rattle.svc_bus_laws.specs.BusState.{BusState}
use Rattle.svc_vol.specs.declared.held_line.HeldLine.{HeldLine}
use Rattle.svc_vol.specs.Lines.{UnitLines, is_older_line}
use Rattle.svc_vol.specs.Value.{AreCommitted, SeenHeldLine, ListValue, active_line, active_lines, seen_held_line, unit_at, held_at}
use Rattle.svc_vcl.specs.Listed.{slot_at}
use Rattle.svc_vcl.specs.Described.{Describes, IsSlotOf, bus_line_of, line_shown, line_with}
use Rattle.svc_vcl.proofs.Slots.{are_active, are_settled}

shown_line : (line : SeenLine) → line.bits.valid ≡ true → bus_line_of (Some line) ≡ Some (line_with line.value line.bits)
shown_line line valid = rw valid refl

-- a line that is not active shows no active line
inactive_shown : (line : SeenLine) → is_active line.bits ≡ false → is_active_line (bus_line_of (Some line)) ≡ false
inactive_shown line idle = elim (cases_Bool line.bits.valid) [
  | inr gone ↦ rw gone refl
  | inl valid ↦ rw valid (sym (ap (λ v. v && not line.bits.commit) valid) ∙ idle)
]

-- a committed line that is shown is a committed line of the cache
committed_shown : (line : Option SeenLine) → is_committed_line (bus_line_of line) ≡ true → cache.is_committed_line line ≡ true
committed_shown None e = e
committed_shown (Some line) e = elim (cases_Bool line.bits.valid) [
  | inr gone ↦ absurd (true≢false (sym e ∙ rw gone refl))
  | inl valid ↦ rw valid (sym (rw valid refl) ∙ e)
]

module _ (b : BusState) (a : ℕ) (lines : UnitLines) (same : (u : ℕ) → b.lines u a ≡ bus_line_of (lines u)) where
  -- a slot that shows a unit's active line
  slot_of : (unit : ℕ) (slot : Option HeldLine) (line : Option SeenLine) → lines unit ≡ line → option_map seen_held_line slot ≡ active_line unit line → IsSlotOf b a unit slot
  slot_of unit None None is shows = ap is_active_line (same unit ∙ ap bus_line_of is)
  slot_of unit (Some version) None is shows = cc
  slot_of unit slot (Some line) is shows = elim (cases_Bool (is_active line.bits)) [
    | inr idle ↦ lacking slot (shows ∙ rw idle refl) (ap is_active_line (same unit ∙ ap bus_line_of is) ∙ inactive_shown line idle)
    | inl active ↦ holding slot (shows ∙ rw active refl) active
  ]
    where
      lacking : (slot : Option HeldLine) → option_map seen_held_line slot ≡ None → is_active_line (b.lines unit a) ≡ false → IsSlotOf b a unit slot
      lacking None none idle = idle
      lacking (Some version) none idle = cc

      holding : (slot : Option HeldLine) → option_map seen_held_line slot ≡ Some (record { unit = unit; line = line }) → is_active line.bits ≡ true → IsSlotOf b a unit slot
      holding None some active = cc
      holding (Some version) some active =
          let held : seen_held_line version ≡ record { unit = unit; line = line } = some_version some in
          let seen_same : seen_line version.line ≡ line = ap (λ (v : SeenHeldLine). v.line) held in
          let shown : line_with line.value line.bits ≡ line_shown version = ap (λ (l : SeenLine). line_with l.value l.bits) (sym seen_same) in
          record {
            unit_is = ap (λ (v : SeenHeldLine). v.unit) held;
            held = same unit ∙ ap bus_line_of is ∙ shown_line line (are_active line.bits active).valid ∙ ap Some shown;
            active = ap (λ (l : SeenLine). is_active l.bits) seen_same ∙ active;
          }
        where
          some_version : {x y : SeenHeldLine} → ◌≡◌ {A = Option SeenHeldLine} (Some x) (Some y) → x ≡ y
          some_version e = cc

  -- what a version list ensures of the lines in the caches, said of the bus
  pub described : (list : ListValue) → AreCommitted lines b.caches list.committed → map (option_map seen_held_line) list.active ≡ active_lines lines b.units
      → ((u v : ℕ) → cache.is_committed_line (lines u) ≡ true → cache.is_committed_line (lines v) ≡ true → is_older_line b.caches lines u v ≡ false → b.is_older a u v ≡ false) → Describes b a list
  described list are shows order = record {
    places = sizes;
    active = λ p below. slot_of (get_or b.units p 0) (slot_at list.active p) (lines (get_or b.units p 0)) refl (at_place p below);
    only = λ i here.
        let only = are.only i here in
        let version = held_at list.committed i in
        record {
          within = only.within;
          held = same version.unit.0 ∙ ap bus_line_of only.held ∙ shown_line (seen_line version.line) (are_settled (bits_of version.line.bits) only.committed).valid;
          committed = only.committed;
        };
    each = λ unit below committed. are.each unit below (committed_shown (lines unit) (ap is_committed_line (sym (same unit)) ∙ committed));
    oldest_first = λ i j less here. order (unit_at list.committed j) (unit_at list.committed i) (settled j here) (settled i (omega (arith, less, here))) (are.oldest_first i j less here);
  }
    where
      settled : (i : ℕ) → i < length list.committed → cache.is_committed_line (lines (unit_at list.committed i)) ≡ true
      settled i here = let only = are.only i here in ap cache.is_committed_line only.held ∙ only.committed

      sizes : length list.active ≡ length b.units
      sizes = sym (length-map list.active (option_map seen_held_line)) ∙ ap length shows ∙ length-map b.units (λ u. active_line u (lines u))

      at_place : (p : ℕ) → p < length b.units → option_map seen_held_line (slot_at list.active p) ≡ active_line (get_or b.units p 0) (lines (get_or b.units p 0))
      at_place p below =
          sym (get_or-map (option_map seen_held_line) list.active p None None (omega (arith, below, sizes)))
          ∙ ap (λ (slots : List (Option SeenHeldLine)). get_or slots p None) shows
          ∙ get_or-map (λ u. active_line u (lines u)) b.units p 0 None below
