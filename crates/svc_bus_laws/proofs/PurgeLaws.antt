-- A purge keeps the line table sound and its map; a spilled value is the head's until its commit.
use Rattle.std.proofs.Common.{◌≡◌, ◌≢◌, refl, sym, ap, ◌∙◌, ℕ, ◌<◌, Some, None, false, cond, not, ◌&&◌, Option, length, inl, inr, arith, unwrap_or, is_some, eq-eqb, ne_eqb}
use Rattle.std.specs.Bool.{◌==◌}
use Rattle.std.specs.Option.{option_or}
use Rattle.std.proofs.lemmas.Bool.{cases_eq}
use Rattle.svc_bus_laws.specs.LineTable.{Line, LineTable, version_in, exposed_in, is_committed_dirty, unit_at, committed_value, own_version, versioned_map}
use Rattle.svc_bus_laws.specs.Steps.{line_after_purging, purge}
use Rattle.svc_bus_laws.specs.Sound.{IsSound}
use Rattle.svc_bus_laws.specs.TableLaws.{IsPurged, IsKeptSpill}
use Rattle.svc_bus_laws.proofs.Maps.{map_same}
use Rattle.svc_bus_laws.proofs.Tables.{same_line, committed_same, committed_none, view_is, purged_version, purged_exposed, purged_clean, purged_was, kept_line, rows_count, version_is, exposed_is, at_same, at_other}
use Rattle.svc_bus_laws.proofs.CommitLaws.{commit_committed}

module _ (t : LineTable) (a : ℕ) (sound : IsSound t) where
  abbrev after : LineTable
  after = purge t a

  here : (v : ℕ) → after.lines v a ≡ line_after_purging (t.lines v a)
  here v = rw (eq-eqb a a refl)

  there : (v b : ℕ) → b ≢ a → after.lines v b ≡ t.lines v b
  there v b ne = rw (ne_eqb b a ne)

  -- what a purge leaves of each line
  left : {A : Type 0} (f : Option Line → A) → ((line : Option Line) → f (line_after_purging line) ≡ f line) → (v b : ℕ) → f (after.lines v b) ≡ f (t.lines v b)
  left f keeps v b = elim (cases_eq b a) [
    | inl e ↦ rw e (ap f (here v) ∙ keeps (t.lines v a))
    | inr ne ↦ ap f (there v b ne)
  ]

  was : (v b : ℕ) (l : Line) → after.lines v b ≡ Some l → t.lines v b ≡ Some l
  was v b l e = elim (cases_eq b a) [
    | inl same ↦ rw same (purged_was (t.lines v a) l (sym (here v) ∙ ap (after.lines v) (sym same) ∙ e))
    | inr ne ↦ sym (there v b ne) ∙ e
  ]

  clean : (v : ℕ) → is_committed_dirty (after.lines v a) ≡ false
  clean v = ap is_committed_dirty (here v) ∙ purged_clean (t.lines v a)

  same_version : (q b : ℕ) → own_version after q b ≡ own_version t q b
  same_version q b = ap (λ o. option_or o (cond (q == 0) (t.spill b) None)) (left version_in purged_version (unit_at t q) b)

  same_committed : (b : ℕ) → committed_value after b ≡ committed_value t b
  same_committed b = elim (cases_eq b a) [
    | inl e ↦ rw e (committed_none after a clean ∙ at_same t.backing a (committed_value t a) a refl)
    | inr ne ↦ committed_same after t b refl (λ v. same_line _ _ (there v b ne)) (at_other t.backing a (committed_value t a) b ne)
  ]

  still_sound : IsSound after
  still_sound = record {
    distinct_units = sound.distinct_units;
    known_units = sound.known_units;
    sound_lines = λ v b l e. kept_line t after.lines after.spill after.backing (λ q c h. same_version q c) same_committed v b l (sound.sound_lines v b l (was v b l e));
    distinct_versions = λ u v b k l e f. sound.distinct_versions u v b k l (was u b k e) (was v b l f);
    sound_spills = λ b some. let old = sound.sound_spills b some in record {
      in_memory = old.in_memory;
      has_head = old.has_head;
      replaced = left version_in purged_version (unit_at t 0) b ∙ old.replaced;
      purged = λ v. elim (cases_eq b a) [
        | inl e ↦ rw e (clean v)
        | inr ne ↦ ap is_committed_dirty (there v b ne) ∙ old.purged v
      ];
    };
  }

  pub purge_law : IsPurged after t a
  purge_law = record {
    sound = still_sound;
    same_map = map_same (versioned_map after) (versioned_map t) (record {
      commits = refl;
      committed = same_committed;
      count = rows_count after ∙ sym (rows_count t);
      versions = λ q h b. let k : q < length t.units = omega (arith, h, rows_count after) in version_is after q b k ∙ same_version q b ∙ sym (version_is t q b k);
      exposed = λ q h b. let k : q < length t.units = omega (arith, h, rows_count after) in
          exposed_is after q b k ∙ ap (λ x. not (q == 0) && x) (left exposed_in purged_exposed (unit_at t q) b) ∙ sym (exposed_is t q b k);
    });
    backing = at_same t.backing a (committed_value t a) a refl;
    clean = clean;
  }

pub kept_spill : (t : LineTable) (a s : ℕ) → IsSound t → t.spill a ≡ Some s → IsKeptSpill t a s
kept_spill t a s sound e =
    let old = sound.sound_spills a (ap is_some e) in
    let own : own_version t 0 a ≡ Some s = ap (λ o. option_or o (t.spill a)) old.replaced ∙ e in
    record {
      seen = view_is t 0 a old.has_head ∙ ap (λ o. unwrap_or o (committed_value t a)) own;
      before = committed_none t a old.purged;
      after = commit_committed t sound old.has_head a ∙ ap (λ o. unwrap_or o (committed_value t a)) own;
      written = ap (λ o. unwrap_or o (t.backing a)) e;
    }
