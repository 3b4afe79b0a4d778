-- Each step of a line table whose units are renamed, and each refusal.
use Rattle.std.proofs.Common.{◌≡◌, refl, sym, ap, ◌∙◌, ℕ, suc, ◌+◌, ◌<◌, ◌≤◌, Some, None, true, false, Bool, cond, not, ◌&&◌, ltb, Option, List, [], ◌∷◌, map, length, arith, is_some}
use Rattle.std.specs.Bool.{◌==◌}
use Rattle.std.specs.Option.{option_or}
use Rattle.std.proofs.lemmas.List.{length-map}
use Rattle.svc_bus_laws.specs.Versioned.{Versioned, view}
use Rattle.svc_bus_laws.specs.Versioned as versions
use Rattle.svc_bus_laws.specs.LineTable.{Line, LineTable, is_active, version_in, exposed_in, is_reusable, unit_at, line_at, versioned_map}
use Rattle.svc_bus_laws.specs.Steps.{with_at, with_line, line_after_purging, line_after_marking, line_after_commit, line_after_reuse, is_overtaken, filled_line, fill, reuse, read, survivors, written_line, squash, store, write, replace, commit, begin}
use Rattle.svc_bus_laws.specs.BusState.{without_number}
use Rattle.svc_bus_laws.specs.BusLine.{is_active_line}
use Rattle.svc_bus_laws.specs.Refusals.{table_cache, is_head, is_pinned, set_full, is_not_resident}
use Rattle.svc_bus_laws.specs.Sound.{IsSound}
use Rattle.svc_bus_laws.proofs.Maps.{survivors_are}
use Rattle.svc_bus_laws.proofs.Tables.{rows_count}
use Rattle.svc_renaming_laws.specs.Renamings.{Renaming, IsRenaming}
use Rattle.svc_renaming_laws.specs.RenamedLines.{renamed_lines}
use Rattle.svc_renaming_laws.proofs.Names.{same_name, both_names, is_at, map_take, map_drop, map_append}
use Rattle.svc_renaming_laws.proofs.LineNames.{units_count, same_line, same_overtaken, same_cut, same_committed, same_map}

-- two tables that differ in nothing
record Same (s t : LineTable) : Type 0 where
  pub caches : s.caches ≡ t.caches
  pub sets : s.sets ≡ t.sets
  pub ways : s.ways ≡ t.ways
  pub words : s.words ≡ t.words
  pub lines : (u a : ℕ) → s.lines u a ≡ t.lines u a
  pub spill : (a : ℕ) → s.spill a ≡ t.spill a
  pub backing : (a : ℕ) → s.backing a ≡ t.backing a
  pub commits : s.commits ≡ t.commits
  pub units : s.units ≡ t.units

one : (s t : LineTable) → Same s t → s ≡ t
one s t same = λ i. record {
  caches = same.caches i;
  sets = same.sets i;
  ways = same.ways i;
  words = same.words i;
  lines = λ u a. same.lines u a i;
  spill = λ a. same.spill a i;
  backing = λ a. same.backing a i;
  commits = same.commits i;
  units = same.units i;
}

chosen : (r : Renaming) (b : Bool) (x y x' y' : LineTable) → x' ≡ renamed_lines r x → y' ≡ renamed_lines r y → cond b x' y' ≡ renamed_lines r (cond b x y)
chosen r true x y x' y' e f = e
chosen r false x y x' y' e f = f

module _ (r : Renaming) (t : LineTable) (is : IsRenaming t.caches r) where
  abbrev s : LineTable
  s = renamed_lines r t

  -- ---- the refusals
  pub same_cache : (u : ℕ) → table_cache s (r.there u) ≡ table_cache t u
  same_cache u = λ i. record { sets = t.sets; ways = t.ways; words = t.words; lines = λ a. without_number (t.lines (is.returns u i) a) }

  pub same_full : (u a : ℕ) → set_full (table_cache s (r.there u)) a ≡ set_full (table_cache t u) a
  same_full u a = ap (λ c. set_full c a) (same_cache u)

  pub same_resident : (u a : ℕ) → is_not_resident (table_cache s (r.there u)) a ≡ is_not_resident (table_cache t u) a
  same_resident u a = ap (λ c. is_not_resident c a) (same_cache u)

  same_head : (us : List ℕ) (u : ℕ) → is_head (map r.there us) (r.there u) ≡ is_head us u
  same_head [] u = refl
  same_head (v ∷ us) u = λ i. ltb 0 (suc (length-map us r.there i)) && both_names r t.caches is v u i

  pub same_pinned : (u a : ℕ) → is_pinned (table_cache s (r.there u)) s.units (r.there u) a ≡ is_pinned (table_cache t u) t.units u a
  same_pinned u a = λ i. is_active_line ((same_cache u i).lines a) && not (same_head t.units u i)

  -- ---- the steps
  -- one line of a word is changed in the cache of the same unit
  line_changed : (u u' a : ℕ) (x x' : Option Line) (others : Option Line → Option Line) (v b : ℕ) → (v == u') ≡ (r.back v == u) → x' ≡ x
      → with_line s.lines u' a x' others v b ≡ with_line t.lines u a x others (r.back v) b
  line_changed u u' a x x' others v b name line = λ i. cond (b == a) (cond (name i) (line i) (others (t.lines (r.back v) b))) (t.lines (r.back v) b)

  pub renamed_squash : (n : ℕ) → squash s n ≡ renamed_lines r (squash t n)
  renamed_squash n = one (squash s n) (renamed_lines r (squash t n)) (record {
    caches = refl;
    sets = refl;
    ways = refl;
    words = refl;
    lines = λ v b. ap (λ c. cond (c && is_active (t.lines (r.back v) b)) None (t.lines (r.back v) b)) (same_cut r t is n v);
    spill = λ a. refl;
    backing = λ a. refl;
    commits = refl;
    units = sym (map_take r.there n t.units);
  })

  pub renamed_begin : (u : ℕ) → begin s (r.there u) ≡ renamed_lines r (begin t u)
  renamed_begin u = one (begin s (r.there u)) (renamed_lines r (begin t u)) (record {
    caches = refl;
    sets = refl;
    ways = refl;
    words = refl;
    lines = λ v b. refl;
    spill = λ a. refl;
    backing = λ a. refl;
    commits = refl;
    units = sym (map_append r.there t.units (u ∷ []));
  })

  pub renamed_commit : 0 < length t.units → commit s ≡ renamed_lines r (commit t)
  renamed_commit has = one (commit s) (renamed_lines r (commit t)) (record {
    caches = refl;
    sets = refl;
    ways = refl;
    words = refl;
    lines = λ v b. ap (λ c. cond c (line_after_commit (t.lines (r.back v) b)) (t.lines (r.back v) b)) (is_at r t.caches is t.units 0 v has);
    spill = λ a. refl;
    backing = λ a. refl;
    commits = refl;
    units = sym (map_drop r.there 1 t.units);
  })

  module _ (sound : IsSound t) where
    pub renamed_replace : (u a : ℕ) → replace s (r.there u) a ≡ renamed_lines r (replace t u a)
    renamed_replace u a = one (replace s (r.there u) a) (renamed_lines r (replace t u a)) (record {
      caches = refl;
      sets = refl;
      ways = refl;
      words = refl;
      lines = λ v b. line_changed u (r.there u) a None None line_after_purging v b (same_name r t.caches is v u) refl;
      spill = λ b. ap (λ v. with_at t.spill a (option_or (version_in (t.lines v a)) (t.spill a)) b) (is.returns u);
      backing = λ b. ap (λ w. with_at t.backing a w b) (same_committed r t is sound a);
      commits = refl;
      units = refl;
    })

    module _ (p a : ℕ) (within : p < length t.units) where
      name : (v : ℕ) → (v == unit_at s p) ≡ (r.back v == unit_at t p)
      name v = is_at r t.caches is t.units p v within

      filled : filled_line s p a ≡ filled_line t p a
      filled =
          let overtaken : is_overtaken s (length s.units) p a ≡ is_overtaken t (length t.units) p a =
          ap (λ n. is_overtaken s n p a) (units_count r t is) ∙ same_overtaken r t is (length t.units) p a (omega arith) in
          λ i. record {
            value = view (same_map r t is sound i) p a;
            store = false;
            load = not ((p == 0) && is_some (t.spill a));
            commit = false;
            stale = overtaken i;
            task = t.commits + p;
          }

      renamed_fill : fill s p a ≡ renamed_lines r (fill t p a)
      renamed_fill = one (fill s p a) (renamed_lines r (fill t p a)) (record {
        caches = refl;
        sets = refl;
        ways = refl;
        words = refl;
        lines = λ v b. line_changed (unit_at t p) (unit_at s p) a (Some (filled_line t p a)) (Some (filled_line s p a)) line_after_purging v b (name v) (ap Some filled);
        spill = λ b. refl;
        backing = λ b. ap (λ w. with_at t.backing a w b) (same_committed r t is sound a);
        commits = refl;
        units = refl;
      })

      renamed_reuse : reuse s p a ≡ renamed_lines r (reuse t p a)
      renamed_reuse = one (reuse s p a) (renamed_lines r (reuse t p a)) (record {
        caches = refl;
        sets = refl;
        ways = refl;
        words = refl;
        lines = λ v b. line_changed (unit_at t p) (unit_at s p) a (line_after_reuse (t.commits + p) (line_at t p a)) (line_after_reuse (t.commits + p) (line_at s p a)) (λ line. line) v b (name v) (ap (line_after_reuse (t.commits + p)) (same_line r t is p a within));
        spill = λ b. refl;
        backing = λ b. refl;
        commits = refl;
        units = refl;
      })

      pub renamed_read : read s p a ≡ renamed_lines r (read t p a)
      renamed_read =
          (λ i. cond (is_active (same_line r t is p a within i)) s (cond (is_reusable (same_line r t is p a within i)) (reuse s p a) (fill s p a)))
          ∙ chosen r (is_active (line_at t p a)) t (cond (is_reusable (line_at t p a)) (reuse t p a) (fill t p a)) s (cond (is_reusable (line_at t p a)) (reuse s p a) (fill s p a)) refl
          (chosen r (is_reusable (line_at t p a)) (reuse t p a) (fill t p a) (reuse s p a) (fill s p a) renamed_reuse renamed_fill)

      left : survivors s p a ≡ survivors t p a
      left = ap (λ m. versions.survivors m p a) (same_map r t is sound)

      few : survivors t p a ≤ length t.units
      few =
          let count = rows_count t in
          let guarded = (survivors_are (versioned_map t) p a (omega (arith, within, count))).within in
          omega (arith, guarded, count)

      written : (w : ℕ) → written_line s p a w ≡ written_line t p a w
      written w =
          let overtaken : is_overtaken s (survivors s p a) p a ≡ is_overtaken t (survivors t p a) p a =
          ap (λ n. is_overtaken s n p a) left ∙ same_overtaken r t is (survivors t p a) p a few in
          λ i. record {
            value = w;
            store = true;
            load = exposed_in (same_line r t is p a within i);
            commit = false;
            stale = overtaken i;
            task = t.commits + p;
          }

      renamed_store : (w : ℕ) → store s p a w ≡ renamed_lines r (store t p a w)
      renamed_store w = one (store s p a w) (renamed_lines r (store t p a w)) (record {
        caches = refl;
        sets = refl;
        ways = refl;
        words = refl;
        lines = λ v b. line_changed (unit_at t p) (unit_at s p) a (Some (written_line t p a w)) (Some (written_line s p a w)) (λ line. line_after_marking (t.commits + p) (line_after_purging line)) v b (name v) (ap Some (written w));
        spill = λ b. refl;
        backing = λ b. ap (λ x. with_at t.backing a x b) (same_committed r t is sound a);
        commits = refl;
        units = refl;
      })

-- a write: the store, and then the cut
pub renamed_write : (r : Renaming) (t : LineTable) (is : IsRenaming t.caches r) → IsSound t → (p a w : ℕ) → p < length t.units → write (renamed_lines r t) p a w ≡ renamed_lines r (write t p a w)
renamed_write r t is sound p a w within =
    (λ i. squash (renamed_store r t is sound p a within w i) (left r t is sound p a within i))
    ∙ renamed_squash r (store t p a w) is (survivors t p a)
