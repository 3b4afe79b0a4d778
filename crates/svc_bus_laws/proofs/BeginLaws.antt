-- The beginning of a task keeps the line table sound, and is the map's.
use Rattle.std.proofs.Common.{◌≡◌, ◌⊎◌, ◌≢◌, refl, sym, ap, ◌∙◌, ℕ, suc, ◌+◌, ◌<◌, Some, None, true, false, Bool, cond, not, ◌&&◌, [], ◌∷◌, Option, length, inl, inr, arith, is_some, eq-eqb, ne_eqb, length-append}
use Rattle.std.specs.Bool.{◌==◌}
use Rattle.std.specs.Option.{option_or}
use Rattle.std.proofs.lemmas.Bool.{cases_Bool, cases_eq}
use Rattle.std.proofs.lemmas.List.{get_or_append_left, get_or_at}
use Rattle.svc_bus_laws.specs.Versioned.{Row, Versioned, fresh_row, row_at, version, is_exposed, latest, view}
use Rattle.svc_bus_laws.specs.Versioned as map
use Rattle.svc_bus_laws.specs.LineTable.{LineTable, is_active, version_in, exposed_in, unit_at, committed_value, own_version, versioned_map}
use Rattle.svc_bus_laws.specs.Steps.{begin}
use Rattle.svc_bus_laws.specs.Sound.{IsSound}
use Rattle.svc_bus_laws.proofs.Maps.{latest_same, map_same, begin_count, begin_row_old, begin_row_new}
use Rattle.svc_bus_laws.proofs.Tables.{same_line, committed_same, view_is, no_version, no_exposure, rows_count, version_is, exposed_is}
use Rattle.svc_bus_laws.proofs.ReadLaws.{active_parts}

module _ (t : LineTable) (u : ℕ) (sound : IsSound t) (known : u < t.caches) (idle : (p : ℕ) → p < length t.units → unit_at t p ≢ u) where
  abbrev after : LineTable
  after = begin t u

  begin_units : length after.units ≡ length t.units + 1
  begin_units = length-append t.units (u ∷ [])

  old_unit : (q : ℕ) → q < length t.units → unit_at after q ≡ unit_at t q
  old_unit q h = get_or_append_left t.units (u ∷ []) 0 q h

  new_unit : unit_at after (length t.units) ≡ u
  new_unit = get_or_at t.units u [] 0 (length t.units) refl

  old_version : (q b : ℕ) → q < length t.units → own_version after q b ≡ own_version t q b
  old_version q b h = ap (λ v. option_or (version_in (t.lines v b)) (cond (q == 0) (t.spill b) None)) (old_unit q h)

  -- an idle unit has no active line
  no_active : (b : ℕ) → is_active (t.lines u b) ≡ false
  no_active b = elim (cases_Bool (is_active (t.lines u b))) [
    | inr none ↦ none
    | inl active ↦ let l = active_parts (t.lines u b) active in let k = (sound.sound_lines u b l.0 l.1).active l.2 in absurd (idle k.0 k.2.within k.1)
  ]

  no_spill : (b : ℕ) → length t.units ≡ 0 → t.spill b ≡ None
  no_spill b e = go (t.spill b) refl
    where
      go : (o : Option ℕ) → t.spill b ≡ o → t.spill b ≡ None
      go None is = is
      go (Some x) is = absurd (omega (arith, e, (sound.sound_spills b (ap is_some is)).has_head))

  new_version : (b : ℕ) → own_version after (length t.units) b ≡ None
  new_version b =
      ap (λ v. option_or (version_in (t.lines v b)) (cond (length t.units == 0) (t.spill b) None)) new_unit
      ∙ ap (λ o. option_or o (cond (length t.units == 0) (t.spill b) None)) (no_version (t.lines u b) (no_active b))
      ∙ elim (cases_eq (length t.units) 0) [
        | inl e ↦ rw (eq-eqb (length t.units) 0 e) (no_spill b e)
        | inr ne ↦ rw (ne_eqb (length t.units) 0 ne)
      ]

  pub begin_committed : (b : ℕ) → committed_value after b ≡ committed_value t b
  begin_committed b = committed_same after t b refl (λ v. same_line _ _ refl) refl

  begin_view : (q b : ℕ) → q < length t.units → view (versioned_map after) q b ≡ view (versioned_map t) q b
  begin_view q b h =
      view_is after q b (omega (arith, h, begin_units))
      ∙ latest_same _ _ _ _ (suc q) (begin_committed b) (λ r k. old_version r b (omega (arith, h, k)))
      ∙ sym (view_is t q b h)

  place : (q : ℕ) → q < length after.units → (q < length t.units) ⊎ (q ≡ length t.units)
  place q h = split (omega (arith, h, begin_units))
    where
      split : q < suc (length t.units) → (q < length t.units) ⊎ (q ≡ length t.units)
      split h = grind arith

  pub begin_sound : IsSound after
  begin_sound = record {
    distinct_units = λ q r h k e. elim (place q h) [
      | inl i ↦ elim (place r k) [
        | inl j ↦ sound.distinct_units q r i j (sym (old_unit q i) ∙ e ∙ old_unit r j)
        | inr j ↦ absurd (idle q i (sym (old_unit q i) ∙ e ∙ ap (unit_at after) j ∙ new_unit))
      ]
      | inr i ↦ elim (place r k) [
        | inl j ↦ absurd (idle r j (sym (old_unit r j) ∙ sym e ∙ ap (unit_at after) i ∙ new_unit))
        | inr j ↦ i ∙ sym j
      ]
    ];
    known_units = λ q h. elim (place q h) [
      | inl i ↦ rw (old_unit q i) (sound.known_units q i)
      | inr i ↦ rw (i, new_unit) known
    ];
    sound_lines = λ v b l e. let old = sound.sound_lines v b l e in record {
      cached = old.cached;
      in_memory = old.in_memory;
      active = λ c. let k = old.active c in (
        k.0,
        old_unit k.0 k.2.within ∙ k.1,
        record {
          within = omega (arith, k.2.within, begin_units);
          task_is = k.2.task_is;
          current = k.2.current ∙ sym (begin_view k.0 b k.2.within);
          loaded = k.2.loaded;
        },
      );
      committed = λ c. record { older = (old.committed c).older; newest = λ x y. (old.committed c).newest x y ∙ sym (begin_committed b) };
      unmarked = λ c q h k. elim (place q h) [
        | inl i ↦ old_version q b i ∙ old.unmarked c q i k
        | inr i ↦ rw i (new_version b)
      ];
    };
    distinct_versions = sound.distinct_versions;
    sound_spills = λ b some. let old = sound.sound_spills b some in record {
      in_memory = old.in_memory;
      has_head = omega (arith, begin_units);
      replaced = ap (λ v. version_in (t.lines v b)) (old_unit 0 old.has_head) ∙ old.replaced;
      purged = old.purged;
    };
  }

  pub begin_map : versioned_map after ≡ map.begin (versioned_map t)
  begin_map = map_same (versioned_map after) (map.begin (versioned_map t)) (record {
    commits = refl;
    committed = begin_committed;
    count = rows_count after ∙ begin_units ∙ sym (begin_count (versioned_map t) ∙ ap (λ k. k + 1) (rows_count t));
    versions = λ q h b. let k : q < length after.units = omega (arith, h, rows_count after) in version_is after q b k ∙ elim (place q k) [
      | inl i ↦ old_version q b i ∙ sym (version_is t q b i) ∙ sym (ap (λ (r : Row). r.versions b) (begin_row_old (versioned_map t) q (omega (arith, i, rows_count t))))
      | inr i ↦ rw i (new_version b ∙ sym (ap (λ (r : Row). r.versions b) (ap (row_at (map.begin (versioned_map t))) (sym (rows_count t)) ∙ begin_row_new (versioned_map t))))
    ];
    exposed = λ q h b. let k : q < length after.units = omega (arith, h, rows_count after) in exposed_is after q b k ∙ elim (place q k) [
      | inl i ↦ ap (λ v. not (q == 0) && exposed_in (t.lines v b)) (old_unit q i) ∙ sym (exposed_is t q b i) ∙ sym (ap (λ (r : Row). r.exposed b) (begin_row_old (versioned_map t) q (omega (arith, i, rows_count t))))
      | inr i ↦ rw i (ap (λ v. not (length t.units == 0) && exposed_in (t.lines v b)) new_unit ∙ ap (λ x. not (length t.units == 0) && x) (no_exposure (t.lines u b) (no_active b)) ∙ right_false _ ∙ sym (ap (λ (r : Row). r.exposed b) (ap (row_at (map.begin (versioned_map t))) (sym (rows_count t)) ∙ begin_row_new (versioned_map t))))
    ];
  })
    where
      right_false : (x : Bool) → (x && false) ≡ false
      right_false true = refl
      right_false false = refl
