-- What caches have of a word that one unit alone names, or nobody.
use Rattle.std.proofs.Common.{◌≡◌, ◌∙◌, ◌<◌, ◌≤◌, ℕ, Bool, true, false, None, cond, refl, ap, arith, eqb-true, ne_eqb}
use Rattle.std.specs.Prelude.{◌==◌, is_some}
use Rattle.std.specs.List.{list_any, range_with_len}
use Rattle.svc_base.specs.declared.ids.UnitId.{UnitId}
use Rattle.svc_bus_laws.specs.BusLine.{is_committed_dirty_line, value_of_line}
use Rattle.svc_bus_laws.specs.BusState.{BusState}
use Rattle.svc_held.specs.declared.named.Named.{Named}
use Rattle.svc_held.specs.declared.named.Namers.{Namers}
use Rattle.svc_held.specs.declared.named.Namers.TheVariants as namers
use Rattle.svc_held.specs.Held.{is_named_line, line_named}
use Rattle.svc_held.specs.Named.{may_have}
use Rattle.svc_version_order.proofs.Counting.{any_below, any_one}
use Rattle.svc_show.specs.declared.cached.Versions.TheVariants.{Absent}
use Rattle.svc_show.specs.Named.{AreVersions, NoneHas, OneHas, and_line, and_version, is_named_version}

module _ (b : BusState) (n : Named) where
  -- the line of a unit that doesn't name the word is none
  not_named : (m : Namers) → n.by ≡ m → (u : ℕ) → may_have u m ≡ false → line_named b n u ≡ None
  not_named m by u miss =
      ap (λ (x : Namers). cond (may_have u x) (b.lines u n.word.0) None) by ∙ ap (λ (y : Bool). cond y (b.lines u n.word.0) None) miss

  pub nobody_line : n.by ≡ namers.Nobody → (units : ℕ) → list_any (is_named_line b n) (range_with_len 0 units) ≡ false
  nobody_line by units = any_below (is_named_line b n) units (λ u inside. ap is_some (not_named namers.Nobody by u refl))

  pub nobody_version : n.by ≡ namers.Nobody → (units : ℕ) → NoneHas b n units
  nobody_version by units u inside = ap is_committed_dirty_line (not_named namers.Nobody by u refl)

  module _ (unit : UnitId) (by : n.by ≡ namers.One unit) (units : ℕ) where
    other : (u : ℕ) → (u == unit.0) ≡ false → line_named b n u ≡ None
    other u apart = not_named (namers.One unit) by u apart

    past : units ≤ unit.0 → (u : ℕ) → u < units → (u == unit.0) ≡ false
    past le u inside = ne_eqb u unit.0 (λ e. omega (arith, le, inside, e))

    pub line_past : units ≤ unit.0 → list_any (is_named_line b n) (range_with_len 0 units) ≡ false
    line_past le = any_below (is_named_line b n) units (λ u inside. ap is_some (other u (past le u inside)))

    pub version_past : units ≤ unit.0 → NoneHas b n units
    version_past le u inside = ap is_committed_dirty_line (other u (past le u inside))

    pub its_line : unit.0 < units → list_any (is_named_line b n) (range_with_len 0 units) ≡ is_named_line b n unit.0
    its_line inside = any_one (is_named_line b n) unit.0 units inside (λ u apart. ap is_some (other u apart))

    pub its_version : unit.0 < units → AreVersions b n units (and_line Absent (line_named b n unit.0))
    its_version inside = by_test (is_named_version b n unit.0) refl
      where
        by_test : (x : Bool) → is_named_version b n unit.0 ≡ x → AreVersions b n units (cond x (and_version Absent (value_of_line (line_named b n unit.0))) Absent)
        by_test true has = record {
          unit = unit.0;
          inside = inside;
          has = has;
          value_is = refl;
          others = λ u below apart. ap is_committed_dirty_line (other u apart);
        }
        by_test false none = λ u below. elsewhere u (u == unit.0) refl none
          where
            elsewhere : (u : ℕ) (x : Bool) → (u == unit.0) ≡ x → is_named_version b n unit.0 ≡ false → is_named_version b n u ≡ false
            elsewhere u true same none = ap (is_named_version b n) (eqb-true u unit.0 same) ∙ none
            elsewhere u false apart none = ap is_committed_dirty_line (other u apart)
