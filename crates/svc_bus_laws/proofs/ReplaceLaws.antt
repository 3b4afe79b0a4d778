-- A replacement keeps the line table sound, and changes nothing in the map.
use Rattle.std.proofs.Common.{◌≡◌, ◌≢◌, refl, sym, ap, ◌∙◌, ℕ, ◌<◌, Some, None, true, false, cond, not, ◌&&◌, Option, length, inl, inr, arith, true≢false, is_some, eq-eqb, ne_eqb}
use Rattle.std.specs.Bool.{◌==◌}
use Rattle.std.specs.Option.{option_or}
use Rattle.std.proofs.lemmas.Bool.{cases_Bool, cases_eq}
use Rattle.svc_bus_laws.specs.LineTable.{Line, LineTable, is_active, version_in, exposed_in, is_committed_dirty, unit_at, line_at, committed_value, own_version, versioned_map}
use Rattle.svc_bus_laws.specs.Steps.{line_after_purging, replace}
use Rattle.svc_bus_laws.specs.Sound.{IsSpilled, IsSound}
use Rattle.svc_bus_laws.proofs.Maps.{map_same}
use Rattle.svc_bus_laws.proofs.Tables.{no_version, no_exposure, purged_version, purged_exposed, purged_clean, purged_was, OtherWord, SameLine, OtherUnit, changed, purge_cleans, purge_committed, kept_line, lines_at, none_line, rows_count, version_is, exposed_is, at_same, at_other}
use Rattle.svc_bus_laws.proofs.ReadLaws.{active_parts}

module _ (t : LineTable) (u a : ℕ) (sound : IsSound t) (unpinned : is_active (t.lines u a) ≡ true → (0 < length t.units) × (unit_at t 0 ≡ u)) where
  abbrev after : LineTable
  after = replace t u a

  -- above the head the unit's line of the word is no active one
  inactive : (q : ℕ) → q < length t.units → q ≢ 0 → unit_at t q ≡ u → is_active (t.lines u a) ≡ false
  inactive q h ne e = elim (cases_Bool (is_active (t.lines u a))) [
    | inr no_active ↦ no_active
    | inl active ↦ let w = unpinned active in absurd (ne (sound.distinct_units q 0 h w.0 (e ∙ sym w.1)))
  ]

  -- only the head's versions are spilled
  unspilled : unit_at t 0 ≢ u → version_in (t.lines u a) ≡ None
  unspilled ne = elim (cases_Bool (is_active (t.lines u a))) [
    | inr no_active ↦ no_version (t.lines u a) no_active
    | inl active ↦ absurd (ne (unpinned active).1)
  ]

  back : (v b : ℕ) → v ≡ u → b ≡ a → option_or (version_in (t.lines u a)) (t.spill a) ≡ option_or (version_in (t.lines v b)) (t.spill b)
  back v b same e = sym (λ i. option_or (version_in (t.lines (same i) (e i))) (t.spill (e i)))

  pub replace_version : (q b : ℕ) → q < length t.units → own_version after q b ≡ own_version t q b
  replace_version q b h = elim (changed t.lines u a None line_after_purging (unit_at t q) b) [
    | OtherWord ne is ↦ ap (λ x. option_or (version_in x) (cond (q == 0) (after.spill b) None)) is ∙ rw (ne_eqb b a ne)
    | SameLine e same is ↦ ap (λ x. option_or (version_in x) (cond (q == 0) (after.spill b) None)) is ∙ elim (cases_eq q 0) [
      | inl z ↦ rw (eq-eqb q 0 z) (at_same t.spill a (option_or (version_in (t.lines u a)) (t.spill a)) b e ∙ back (unit_at t q) b same e)
      | inr ne ↦ rw (ne_eqb q 0 ne) (sym (ap (λ x. option_or (version_in x) None) (lines_at t _ _ _ _ same e) ∙ ap (λ o. option_or o None) (no_version (t.lines u a) (inactive q h ne same))))
    ]
    | OtherUnit e other is ↦ ap (λ x. option_or (version_in x) (cond (q == 0) (after.spill b) None)) is ∙ ap (λ o. option_or o (cond (q == 0) (after.spill b) None)) (purged_version (line_at t q b)) ∙ elim (cases_eq q 0) [
      | inr ne ↦ rw (ne_eqb q 0 ne)
      | inl z ↦
          let spill : after.spill b ≡ t.spill b = at_same t.spill a (option_or (version_in (t.lines u a)) (t.spill a)) b e ∙ ap (λ o. option_or o (t.spill a)) (unspilled (λ s. other (ap (unit_at t) z ∙ s))) ∙ ap t.spill (sym e) in
          ap (λ o. option_or (version_in (line_at t q b)) (cond (q == 0) o None)) spill
    ]
  ]

  pub replace_committed : (b : ℕ) → committed_value after b ≡ committed_value t b
  replace_committed b = purge_committed t u a None line_after_purging after.spill refl purged_clean b

  replace_was : (v b : ℕ) (l : Line) → after.lines v b ≡ Some l → t.lines v b ≡ Some l
  replace_was v b l e = elim (changed t.lines u a None line_after_purging v b) [
    | OtherWord ne is ↦ sym is ∙ e
    | SameLine here same is ↦ none_line l (sym is ∙ e)
    | OtherUnit here ne is ↦ purged_was (t.lines v b) l (sym is ∙ e)
  ]

  replace_spills : (b : ℕ) → is_some (after.spill b) ≡ true → IsSpilled after b
  replace_spills b some = elim (cases_eq b a) [
    | inr ne ↦ let old = sound.sound_spills b (sym (ap is_some (at_other t.spill a (option_or (version_in (t.lines u a)) (t.spill a)) b ne)) ∙ some) in record {
      in_memory = old.in_memory;
      has_head = old.has_head;
      replaced = elim (changed t.lines u a None line_after_purging (unit_at t 0) b) [
        | OtherWord other is ↦ ap version_in is ∙ old.replaced
        | SameLine e same is ↦ absurd (ne e)
        | OtherUnit e other is ↦ absurd (ne e)
      ];
      purged = λ v. elim (changed t.lines u a None line_after_purging v b) [
        | OtherWord other is ↦ ap is_committed_dirty is ∙ old.purged v
        | SameLine e same is ↦ absurd (ne e)
        | OtherUnit e other is ↦ absurd (ne e)
      ];
    }
    | inl e ↦ rw e (record {
      in_memory = (here e).0;
      has_head = (here e).1;
      replaced = (here e).2;
      purged = purge_cleans t u a None line_after_purging after.spill refl purged_clean;
    })
  ]
    where
      from : (o : Option ℕ) → version_in (t.lines u a) ≡ o → is_some (option_or o (t.spill a)) ≡ true → (a < t.words) × (0 < length t.units) × (version_in (line_at after 0 a) ≡ None)
      from None is some = let old = sound.sound_spills a some in (
        old.in_memory,
        old.has_head,
        elim (changed t.lines u a None line_after_purging (unit_at t 0) a) [
          | OtherWord ne e ↦ absurd (ne refl)
          | SameLine e same is ↦ ap version_in is
          | OtherUnit e other is ↦ ap version_in is ∙ purged_version (line_at t 0 a) ∙ old.replaced
        ],
      )
      from (Some x) is some = elim (cases_Bool (is_active (t.lines u a))) [
        | inr no_active ↦ absurd (true≢false (sym (ap is_some is) ∙ ap is_some (no_version (t.lines u a) no_active)))
        | inl active ↦ let w = unpinned active in let l = active_parts (t.lines u a) active in (
          (sound.sound_lines u a l.0 l.1).in_memory,
          w.0,
          elim (changed t.lines u a None line_after_purging (unit_at t 0) a) [
            | OtherWord ne e ↦ absurd (ne refl)
            | SameLine e same is ↦ ap version_in is
            | OtherUnit e other is ↦ absurd (other w.1)
          ],
        )
      ]

      here : b ≡ a → (a < t.words) × (0 < length t.units) × (version_in (line_at after 0 a) ≡ None)
      here e = from (version_in (t.lines u a)) refl (sym (ap is_some (at_same t.spill a (option_or (version_in (t.lines u a)) (t.spill a)) b e)) ∙ some)

  pub replace_sound : IsSound after
  replace_sound = record {
    distinct_units = sound.distinct_units;
    known_units = sound.known_units;
    sound_lines = λ v b l e. kept_line t after.lines after.spill after.backing replace_version replace_committed v b l (sound.sound_lines v b l (replace_was v b l e));
    distinct_versions = λ v x b k l e f c d number. sound.distinct_versions v x b k l (replace_was v b k e) (replace_was x b l f) c d number;
    sound_spills = replace_spills;
  }

  pub replace_map : versioned_map after ≡ versioned_map t
  replace_map = map_same (versioned_map after) (versioned_map t) (record {
    commits = refl;
    committed = replace_committed;
    count = rows_count after ∙ sym (rows_count t);
    versions = λ q h b. let k : q < length t.units = omega (arith, h, rows_count after) in version_is after q b k ∙ replace_version q b k ∙ sym (version_is t q b k);
    exposed = λ q h b. let k : q < length t.units = omega (arith, h, rows_count after) in exposed_is after q b k ∙ exposure q b k ∙ sym (exposed_is t q b k);
  })
    where
      exposure : (q b : ℕ) → q < length t.units → (not (q == 0) && exposed_in (line_at after q b)) ≡ (not (q == 0) && exposed_in (line_at t q b))
      exposure q b h = elim (changed t.lines u a None line_after_purging (unit_at t q) b) [
        | OtherWord ne is ↦ ap (λ x. not (q == 0) && exposed_in x) is
        | OtherUnit e other is ↦ ap (λ x. not (q == 0) && exposed_in x) is ∙ ap (λ x. not (q == 0) && x) (purged_exposed (line_at t q b))
        | SameLine e same is ↦ elim (cases_eq q 0) [
          | inl z ↦ rw (eq-eqb q 0 z)
          | inr ne ↦ ap (λ x. not (q == 0) && exposed_in x) is ∙ ap (λ x. not (q == 0) && x) (sym (ap exposed_in (lines_at t _ _ _ _ same e) ∙ no_exposure (t.lines u a) (inactive q h ne same)))
        ]
      ]
