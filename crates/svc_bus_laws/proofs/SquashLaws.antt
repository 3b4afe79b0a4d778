-- The squash of the tasks from a place on keeps the line table sound, and is the map's cut.
use Rattle.std.proofs.Common.{◌≡◌, refl, sym, ap, ◌∙◌, subst, ℕ, suc, ◌+◌, ◌<◌, ◌≤◌, Some, None, false, cond, not, ◌&&◌, length, arith, length-take, get_or-take}
use Rattle.std.specs.Bool.{◌==◌}
use Rattle.std.specs.Option.{option_or}
use Rattle.svc_bus_laws.specs.Versioned.{Row, Versioned, fresh_row, row_at, version, is_exposed, latest, view}
use Rattle.svc_bus_laws.specs.Versioned as map
use Rattle.svc_bus_laws.specs.LineTable.{Line, LineTable, version_in, exposed_in, unit_at, line_at, committed_value, own_version, versioned_map}
use Rattle.svc_bus_laws.specs.Steps.{line_after_squashing, squash}
use Rattle.svc_bus_laws.specs.Sound.{IsSoundLine, IsSound}
use Rattle.svc_bus_laws.proofs.Maps.{latest_same, map_same, cut_row}
use Rattle.svc_bus_laws.proofs.Tables.{committed_same, view_is, rows_count, version_is, exposed_is}
use Rattle.svc_bus_laws.proofs.Numbered.{numbered_squash, squash_is}
use Rattle.svc_bus_laws.proofs.WriteLaws.{squashed_kept, squashed_was, squashed_dirty}

module _ (t : LineTable) (n : ℕ) (sound : IsSound t) (above : 0 < n) (room : n ≤ length t.units) where
  abbrev after : LineTable
  after = numbered_squash t n

  pub squash_units : length after.units ≡ n
  squash_units = length-take n t.units ∙ omega (arith, room)

  kept_unit : (q : ℕ) → q < n → unit_at after q ≡ unit_at t q
  kept_unit q h = get_or-take n t.units q 0 h

  line_is : (q b : ℕ) → q < n → line_at after q b ≡ line_at t q b
  line_is q b h = ap (λ v. line_after_squashing (t.commits + n) (t.lines v b)) (kept_unit q h) ∙ squashed_kept (t.commits + n) (line_at t q b) (λ l e c.
      let k = (sound.sound_lines (unit_at t q) b l e).active c in
      let place : k.0 ≡ q = sound.distinct_units k.0 q k.2.within (omega (arith, h, room)) k.1 in
      omega (arith, k.2.task_is, place, h))

  pub squash_version : (q b : ℕ) → q < n → own_version after q b ≡ own_version t q b
  squash_version q b h = ap (λ x. option_or (version_in x) (cond (q == 0) (t.spill b) None)) (line_is q b h)

  pub squash_committed : (b : ℕ) → committed_value after b ≡ committed_value t b
  squash_committed b = committed_same after t b refl (λ v. squashed_dirty (t.commits + n) (t.lines v b)) refl

  squash_view : (q b : ℕ) → q < n → view (versioned_map after) q b ≡ view (versioned_map t) q b
  squash_view q b h =
      view_is after q b (omega (arith, h, squash_units))
      ∙ latest_same _ _ _ _ (suc q) (squash_committed b) (λ r k. squash_version r b (omega (arith, h, k)))
      ∙ sym (view_is t q b (omega (arith, h, room)))

  squash_lines : (v b : ℕ) (l : Line) → after.lines v b ≡ Some l → IsSoundLine after v b l
  squash_lines v b l e = go (squashed_was (t.commits + n) (t.lines v b) l e)
    where
      go : (t.lines v b ≡ Some l) × (l.commit ≡ false → l.task < t.commits + n) → IsSoundLine after v b l
      go s = let old = sound.sound_lines v b l s.0 in record {
        cached = old.cached;
        in_memory = old.in_memory;
        active = λ c. let k = old.active c in let h : k.0 < n = omega (arith, k.2.task_is, s.1 c) in (
          k.0,
          kept_unit k.0 h ∙ k.1,
          record {
            within = omega (arith, h, squash_units);
            task_is = k.2.task_is;
            current = k.2.current ∙ sym (squash_view k.0 b h);
            loaded = k.2.loaded;
          },
        );
        committed = λ c. record { older = (old.committed c).older; newest = λ x y. (old.committed c).newest x y ∙ sym (squash_committed b) };
        unmarked = λ c q h k. squash_version q b (omega (arith, h, squash_units)) ∙ old.unmarked c q (omega (arith, h, squash_units, room)) k;
      }

  pub squash_sound : IsSound after
  squash_sound = record {
    distinct_units = λ q r h k e. let i : q < n = omega (arith, h, squash_units) in let j : r < n = omega (arith, k, squash_units) in sound.distinct_units q r (omega (arith, i, room)) (omega (arith, j, room)) (sym (kept_unit q i) ∙ e ∙ kept_unit r j);
    known_units = λ q h. let i : q < n = omega (arith, h, squash_units) in rw (kept_unit q i) (sound.known_units q (omega (arith, i, room)));
    sound_lines = squash_lines;
    distinct_versions = λ u v b k l e f c d number. sound.distinct_versions u v b k l (squashed_was _ _ k e).0 (squashed_was _ _ l f).0 c d number;
    sound_spills = λ b some. let old = sound.sound_spills b some in record {
      in_memory = old.in_memory;
      has_head = omega (arith, above, squash_units);
      replaced = ap version_in (line_is 0 b above) ∙ old.replaced;
      purged = λ v. (squashed_dirty (t.commits + n) (t.lines v b)).dirty ∙ old.purged v;
    };
  }

  pub squash_map : versioned_map after ≡ map.squash (versioned_map t) n
  squash_map = map_same (versioned_map after) (map.squash (versioned_map t) n) (record {
    commits = refl;
    committed = squash_committed;
    count = rows_count after ∙ squash_units ∙ sym (length-take n (versioned_map t).rows ∙ omega (arith, room, rows_count t));
    versions = λ q h b.
        let k : q < length after.units = omega (arith, h, rows_count after) in
        let i : q < n = omega (arith, k, squash_units) in
        version_is after q b k ∙ squash_version q b i ∙ sym (version_is t q b (omega (arith, i, room))) ∙ sym (ap (λ (r : Row). r.versions b) (cut_row (versioned_map t) n q i));
    exposed = λ q h b.
        let k : q < length after.units = omega (arith, h, rows_count after) in
        let i : q < n = omega (arith, k, squash_units) in
        exposed_is after q b k ∙ ap (λ x. not (q == 0) && exposed_in x) (line_is q b i) ∙ sym (exposed_is t q b (omega (arith, i, room))) ∙ sym (ap (λ (r : Row). r.exposed b) (cut_row (versioned_map t) n q i));
  })

-- the squash of the rules is the squash by numbers
pub squash_law : (t : LineTable) (n : ℕ) → IsSound t → 0 < n → n ≤ length t.units → IsSound (squash t n) × (versioned_map (squash t n) ≡ map.squash (versioned_map t) n)
squash_law t n sound above room = subst (λ s. IsSound s × (versioned_map s ≡ map.squash (versioned_map t) n)) (sym (squash_is t n sound)) (squash_sound t n sound above room, squash_map t n sound above room)
