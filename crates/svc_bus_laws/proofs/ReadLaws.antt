-- The reads keep the line table sound, and are the map's read.
use Rattle.std.proofs.Common.{◌≡◌, ◌≢◌, refl, sym, ap, ◌∙◌, subst, ℕ, suc, ◌+◌, ◌<◌, Some, None, true, false, Bool, cond, not, ◌&&◌, ◌||◌, Option, length, inl, inr, arith, true≢false, is_some, is_none, eq-eqb, ne_eqb, lt-ltb}
use Rattle.std.specs.Bool.{◌==◌}
use Rattle.std.specs.Option.{option_or}
use Rattle.std.proofs.lemmas.Bool.{cases_Bool, cases_eq}
use Rattle.svc_bus_laws.specs.Versioned.{Row, Versioned, fresh_row, version, is_exposed, latest, view}
use Rattle.svc_bus_laws.specs.Versioned as map
use Rattle.svc_bus_laws.specs.LineTable.{Line, LineTable, is_active, version_in, exposed_in, is_committed_dirty, is_reusable, value_in, unit_at, line_at, committed_value, own_version, versioned_map}
use Rattle.svc_bus_laws.specs.Steps.{line_after_purging, line_after_reuse, fill, reuse, read, filled_line, is_overtaken}
use Rattle.svc_bus_laws.specs.Sound.{IsActiveLine, IsSoundLine, IsSound}
use Rattle.svc_bus_laws.proofs.Searches.{any_fails}
use Rattle.svc_bus_laws.proofs.Maps.{latest_none, Same, map_same, read_count, read_version, read_exposed_same, read_exposed_other}
use Rattle.svc_bus_laws.proofs.Tables.{SameCommitted, same_line, both_clean, committed_same, view_is, no_version, no_exposure, purged_version, purged_exposed, purged_clean, purged_was, OtherWord, SameLine, OtherUnit, changed, purge_committed, kept_view, kept_line, own_above, or_none, lines_at, some_line, rows_count, version_is, exposed_is}

-- a test of an option fails where it is empty
is_none_from : {A : Type 0} (o : Option A) → is_some o ≡ false → o ≡ None
is_none_from None e = refl
is_none_from (Some x) e = absurd (true≢false e)

right_fails : (x y : Bool) → (x && y) ≡ false → x ≡ true → y ≡ false
right_fails true y e f = e
right_fails false y e f = absurd (true≢false (sym f))

-- no task above the place is seen to have a version
pub not_overtaken : (t : LineTable) (n p a : ℕ) → is_overtaken t n p a ≡ false → (q : ℕ) → q < n → p < q → own_version t q a ≡ None
not_overtaken t n p a e q h k =
    own_above t q a (omega (arith, k)) ∙ is_none_from _ (right_fails _ _ (any_fails n _ e q h) (lt-ltb p q k))

pub reusable_parts : (line : Option Line) → is_reusable line ≡ true → (l : Line) × (line ≡ Some l) × ((l.commit ≡ true) × (l.store ≡ false) × (l.stale ≡ false))
reusable_parts None e = absurd (true≢false (sym e))
reusable_parts (Some l) e = (l, refl, go l.commit l.store l.stale refl refl refl e)
  where
    go : (c s d : Bool) → l.commit ≡ c → l.store ≡ s → l.stale ≡ d → (c && (not s && not d)) ≡ true → (l.commit ≡ true) × (l.store ≡ false) × (l.stale ≡ false)
    go true false false x y z e = (x, y, z)
    go true false true x y z e = absurd (true≢false (sym e))
    go true true d x y z e = absurd (true≢false (sym e))
    go false s d x y z e = absurd (true≢false (sym e))

pub active_parts : (line : Option Line) → is_active line ≡ true → (l : Line) × (line ≡ Some l) × (l.commit ≡ false)
active_parts None e = absurd (true≢false (sym e))
active_parts (Some l) e = (l, refl, elim (cases_Bool l.commit) [ inl set ↦ absurd (true≢false (sym e ∙ ap not set)) | inr clear ↦ clear ])

module _ (t : LineTable) (p a : ℕ) (sound : IsSound t) (within : p < length t.units) where
  same_place : (q : ℕ) → q < length t.units → unit_at t q ≡ unit_at t p → q ≡ p
  same_place q h e = sound.distinct_units q p h within e

  -- a table that is the map's read: nothing but the reader's own exposure changes
  read_is : (s : LineTable) → s.commits ≡ t.commits → length s.units ≡ length t.units
      → ((b : ℕ) → committed_value s b ≡ committed_value t b)
      → ((q b : ℕ) → q < length t.units → own_version s q b ≡ own_version t q b)
      → ((q b : ℕ) → q < length t.units → q ≢ p → (not (q == 0) && exposed_in (line_at s q b)) ≡ (not (q == 0) && exposed_in (line_at t q b)))
      → ((b : ℕ) → b ≢ a → (not (p == 0) && exposed_in (line_at s p b)) ≡ (not (p == 0) && exposed_in (line_at t p b)))
      → (not (p == 0) && exposed_in (line_at s p a)) ≡ ((not (p == 0) && exposed_in (line_at t p a)) || (not (p == 0) && is_none (own_version t p a)))
      → Same (versioned_map s) (map.read (versioned_map t) p a)
  read_is s commits count committed versions others words here =
      let room : p < length (versioned_map t).rows = omega (arith, within, rows_count t) in
      let old = λ (q : ℕ) (h : q < length (versioned_map s).rows). let k : q < length t.units = omega (arith, h, rows_count s, count) in k in
      let new = λ (q : ℕ) (h : q < length (versioned_map s).rows). let k : q < length s.units = omega (arith, h, rows_count s) in k in
      record {
        commits = commits;
        committed = committed;
        count = rows_count s ∙ count ∙ sym (rows_count t) ∙ sym (read_count (versioned_map t) p a room);
        versions = λ q h b. version_is s q b (new q h) ∙ versions q b (old q h) ∙ sym (version_is t q b (old q h)) ∙ sym (read_version (versioned_map t) p a room q b);
        exposed = λ q h b. exposed_is s q b (new q h) ∙ elim (cases_eq q p) [
          | inr ne ↦ others q b (old q h) ne ∙ sym (exposed_is t q b (old q h)) ∙ sym (read_exposed_other (versioned_map t) p a room q b ne)
          | inl e ↦ rw e (elim (cases_eq b a) [
            | inl word ↦ rw word (here ∙ sym (read_exposed_same (versioned_map t) p a room a ∙ rw (eq-eqb a a refl, exposed_is t p a within, version_is t p a within)))
            | inr ne ↦ words b ne ∙ sym (read_exposed_same (versioned_map t) p a room b ∙ rw (ne_eqb a b (λ z. ne (sym z)), exposed_is t p b within) (or_false _))
          ])
        ];
      }
    where
      or_false : (x : Bool) → (x || false) ≡ x
      or_false true = refl
      or_false false = refl

  -- ---- a bus request

  module _ (known : a < t.words) (miss : is_active (line_at t p a) ≡ false) where
    abbrev line : Option Line
    line = Some (filled_line t p a)

    fill_version_in : (q b : ℕ) → version_in (line_at (fill t p a) q b) ≡ version_in (line_at t q b)
    fill_version_in q b = elim (changed t.lines (unit_at t p) a line line_after_purging (unit_at t q) b) [
      | OtherWord ne is ↦ rw is
      | SameLine e same is ↦ rw is (sym (ap version_in (lines_at t _ _ _ _ same e) ∙ no_version (line_at t p a) miss))
      | OtherUnit e ne is ↦ rw is (purged_version _)
    ]

    pub fill_version : (q b : ℕ) → q < length t.units → own_version (fill t p a) q b ≡ own_version t q b
    fill_version q b h = ap (λ o. option_or o (cond (q == 0) (t.spill b) None)) (fill_version_in q b)

    pub fill_committed : (b : ℕ) → committed_value (fill t p a) b ≡ committed_value t b
    fill_committed b = purge_committed t (unit_at t p) a line line_after_purging t.spill refl purged_clean b

    fill_line : IsSoundLine (fill t p a) (unit_at t p) a (filled_line t p a)
    fill_line = record {
      cached = sound.known_units p within;
      in_memory = known;
      active = λ e. (
        p,
        refl,
        record {
          within = within;
          task_is = refl;
          current = sym (kept_view t (fill t p a).lines (fill t p a).spill (fill t p a).backing fill_version fill_committed p a within);
          loaded = λ s. elim (cases_eq p 0) [ inl e ↦ inl e | inr ne ↦ inr (rw (ne_eqb p 0 ne)) ];
        },
      );
      committed = λ e. absurd (true≢false (sym e));
      unmarked = λ e q h k. fill_version q a h ∙ not_overtaken t (length t.units) p a e q h (omega (arith, k));
    }

    fill_lines : (v b : ℕ) (l : Line) → (fill t p a).lines v b ≡ Some l → IsSoundLine (fill t p a) v b l
    fill_lines v b l e = elim (changed t.lines (unit_at t p) a line line_after_purging v b) [
      | OtherWord ne is ↦ kept_line t (fill t p a).lines (fill t p a).spill (fill t p a).backing fill_version fill_committed v b l (sound.sound_lines v b l (sym is ∙ e))
      | SameLine here same is ↦ rw (here, same, ← some_line _ _ (sym is ∙ e)) fill_line
      | OtherUnit here ne is ↦ kept_line t (fill t p a).lines (fill t p a).spill (fill t p a).backing fill_version fill_committed v b l (sound.sound_lines v b l (purged_was _ l (sym is ∙ e)))
    ]

    fill_old : (v b : ℕ) (l : Line) → (fill t p a).lines v b ≡ Some l → l.commit ≡ true → t.lines v b ≡ Some l
    fill_old v b l e c = elim (changed t.lines (unit_at t p) a line line_after_purging v b) [
      | OtherWord ne is ↦ sym is ∙ e
      | SameLine here same is ↦ absurd (true≢false (sym c ∙ sym (ap (λ (k : Line). k.commit) (some_line _ _ (sym is ∙ e)))))
      | OtherUnit here ne is ↦ purged_was _ l (sym is ∙ e)
    ]

    pub fill_sound : IsSound (fill t p a)
    fill_sound = record {
      distinct_units = sound.distinct_units;
      known_units = sound.known_units;
      sound_lines = fill_lines;
      distinct_versions = λ u v b k l e f c d same. sound.distinct_versions u v b k l (fill_old u b k e c) (fill_old v b l f d) c d same;
      sound_spills = λ b some. let old = sound.sound_spills b some in record {
        in_memory = old.in_memory;
        has_head = old.has_head;
        replaced = fill_version_in 0 b ∙ old.replaced;
        purged = λ v. elim (changed t.lines (unit_at t p) a line line_after_purging v b) [
          | OtherWord ne is ↦ rw is (old.purged v)
          | SameLine e same is ↦ rw is
          | OtherUnit e ne is ↦ rw is (purged_clean (t.lines v b))
        ];
      };
    }

    fill_exposed_other : (q b : ℕ) → q < length t.units → q ≢ p → exposed_in (line_at (fill t p a) q b) ≡ exposed_in (line_at t q b)
    fill_exposed_other q b h ne = elim (changed t.lines (unit_at t p) a line line_after_purging (unit_at t q) b) [
      | OtherWord other is ↦ rw is
      | SameLine e same is ↦ absurd (ne (same_place q h same))
      | OtherUnit e other is ↦ rw is (purged_exposed (line_at t q b))
    ]

    fill_exposed_word : (b : ℕ) → b ≢ a → exposed_in (line_at (fill t p a) p b) ≡ exposed_in (line_at t p b)
    fill_exposed_word b ne = rw (ne_eqb b a ne)

    fill_exposed_here : exposed_in (line_at (fill t p a) p a) ≡ not ((p == 0) && is_some (t.spill a))
    fill_exposed_here = rw (eq-eqb a a refl, eq-eqb (unit_at t p) (unit_at t p) refl)

    pub fill_map : versioned_map (fill t p a) ≡ map.read (versioned_map t) p a
    fill_map = map_same (versioned_map (fill t p a)) (map.read (versioned_map t) p a) (read_is (fill t p a) refl refl fill_committed fill_version (λ q b h ne. ap (λ x. not (q == 0) && x) (fill_exposed_other q b h ne)) (λ b ne. ap (λ x. not (p == 0) && x) (fill_exposed_word b ne))
        (elim (cases_eq p 0) [
          | inl e ↦ rw (eq-eqb p 0 e)
          | inr ne ↦ rw (fill_exposed_here, ne_eqb p 0 ne, no_exposure (line_at t p a) miss, or_none (version_in (line_at t p a)), no_version (line_at t p a) miss)
        ]))

  -- ---- a reuse

  module _ (reusable : is_reusable (line_at t p a) ≡ true) where
    parts : (l : Line) × (line_at t p a ≡ Some l) × (l.commit ≡ true) × (l.store ≡ false) × (l.stale ≡ false)
    parts = let w = reusable_parts (line_at t p a) reusable in (w.0, w.1, w.2.0, w.2.1, w.2.2)

    abbrev mine : Option Line
    mine = line_after_reuse (t.commits + p) (line_at t p a)

    abbrev same : Option Line → Option Line
    same line = line

    inactive : is_active (line_at t p a) ≡ false
    inactive = ap is_active parts.1 ∙ ap not parts.2

    clean : is_committed_dirty (line_at t p a) ≡ false
    clean = ap is_committed_dirty parts.1 ∙ rw (parts.2, parts.3)

    mine_clean : is_committed_dirty mine ≡ false
    mine_clean = ap (λ line. is_committed_dirty (line_after_reuse (t.commits + p) line)) parts.1

    mine_version : version_in mine ≡ None
    mine_version = ap (λ line. version_in (line_after_reuse (t.commits + p) line)) parts.1 ∙ rw parts.3

    mine_exposed : exposed_in mine ≡ true
    mine_exposed = ap (λ line. exposed_in (line_after_reuse (t.commits + p) line)) parts.1

    reuse_version_in : (q b : ℕ) → version_in (line_at (reuse t p a) q b) ≡ version_in (line_at t q b)
    reuse_version_in q b = elim (changed t.lines (unit_at t p) a mine same (unit_at t q) b) [
      | OtherWord ne is ↦ rw is
      | SameLine e here is ↦ rw is (mine_version ∙ sym (ap version_in (lines_at t _ _ _ _ here e) ∙ no_version (line_at t p a) inactive))
      | OtherUnit e ne is ↦ rw is
    ]

    pub reuse_version : (q b : ℕ) → q < length t.units → own_version (reuse t p a) q b ≡ own_version t q b
    reuse_version q b h = ap (λ o. option_or o (cond (q == 0) (t.spill b) None)) (reuse_version_in q b)

    reuse_dirty : (v b : ℕ) → SameCommitted ((reuse t p a).lines v b) (t.lines v b)
    reuse_dirty v b = elim (changed t.lines (unit_at t p) a mine same v b) [
      | OtherWord ne is ↦ same_line _ _ is
      | SameLine e here is ↦ both_clean _ _ (ap is_committed_dirty is ∙ mine_clean) (ap is_committed_dirty (lines_at t _ _ _ _ here e) ∙ clean)
      | OtherUnit e ne is ↦ same_line _ _ is
    ]

    pub reuse_committed : (b : ℕ) → committed_value (reuse t p a) b ≡ committed_value t b
    reuse_committed b = committed_same (reuse t p a) t b refl (λ v. reuse_dirty v b) refl

    old_line : IsSoundLine t (unit_at t p) a parts.0
    old_line = sound.sound_lines (unit_at t p) a parts.0 parts.1

    -- no active task has a version of the word
    none_above : (q : ℕ) → q < length t.units → own_version t q a ≡ None
    none_above q h = old_line.unmarked parts.4 q h (omega (arith, (old_line.committed parts.2).older))

    reuse_view : parts.0.value ≡ view (versioned_map t) p a
    reuse_view = (old_line.committed parts.2).newest parts.3 parts.4 ∙ sym (view_is t p a within ∙ latest_none _ _ (suc p) (λ q h. none_above q (omega (arith, h, within))))

    -- the reused line holds what its task reads
    pub reuse_value : value_in (line_at t p a) ≡ view (versioned_map t) p a
    reuse_value = ap value_in parts.1 ∙ reuse_view

    abbrev reused_line : Line
    reused_line = record parts.0 { commit = false; load = true; task = t.commits + p }

    reuse_line : IsSoundLine (reuse t p a) (unit_at t p) a reused_line
    reuse_line = record {
      cached = old_line.cached;
      in_memory = old_line.in_memory;
      active = λ e. (
        p,
        refl,
        record {
          within = within;
          task_is = refl;
          current = reuse_view ∙ sym (kept_view t (reuse t p a).lines (reuse t p a).spill (reuse t p a).backing reuse_version reuse_committed p a within);
          loaded = λ s. inr refl;
        },
      );
      committed = λ e. absurd (true≢false (sym e));
      unmarked = λ e q h k. reuse_version q a h ∙ none_above q h;
    }

    reuse_lines : (v b : ℕ) (l : Line) → (reuse t p a).lines v b ≡ Some l → IsSoundLine (reuse t p a) v b l
    reuse_lines v b l e = elim (changed t.lines (unit_at t p) a mine same v b) [
      | OtherWord ne is ↦ kept_line t (reuse t p a).lines (reuse t p a).spill (reuse t p a).backing reuse_version reuse_committed v b l (sound.sound_lines v b l (sym is ∙ e))
      | SameLine here unit is ↦ rw (here, unit, ← some_line _ _ (sym (ap (line_after_reuse (t.commits + p)) parts.1) ∙ sym is ∙ e)) reuse_line
      | OtherUnit here ne is ↦ kept_line t (reuse t p a).lines (reuse t p a).spill (reuse t p a).backing reuse_version reuse_committed v b l (sound.sound_lines v b l (sym is ∙ e))
    ]

    reuse_old : (v b : ℕ) (l : Line) → (reuse t p a).lines v b ≡ Some l → l.commit ≡ true → t.lines v b ≡ Some l
    reuse_old v b l e c = elim (changed t.lines (unit_at t p) a mine same v b) [
      | OtherWord ne is ↦ sym is ∙ e
      | SameLine here unit is ↦ absurd (true≢false (sym c ∙ sym (ap (λ (k : Line). k.commit) (some_line _ _ (sym (ap (line_after_reuse (t.commits + p)) parts.1) ∙ sym is ∙ e)))))
      | OtherUnit here ne is ↦ sym is ∙ e
    ]

    pub reuse_sound : IsSound (reuse t p a)
    reuse_sound = record {
      distinct_units = sound.distinct_units;
      known_units = sound.known_units;
      sound_lines = reuse_lines;
      distinct_versions = λ u v b k l e f c d number. sound.distinct_versions u v b k l (reuse_old u b k e c) (reuse_old v b l f d) c d number;
      sound_spills = λ b some. let old = sound.sound_spills b some in record {
        in_memory = old.in_memory;
        has_head = old.has_head;
        replaced = reuse_version_in 0 b ∙ old.replaced;
        purged = λ v. (reuse_dirty v b).dirty ∙ old.purged v;
      };
    }

    reuse_exposed_other : (q b : ℕ) → q < length t.units → q ≢ p → exposed_in (line_at (reuse t p a) q b) ≡ exposed_in (line_at t q b)
    reuse_exposed_other q b h ne = elim (changed t.lines (unit_at t p) a mine same (unit_at t q) b) [
      | OtherWord other is ↦ rw is
      | SameLine e here is ↦ absurd (ne (same_place q h here))
      | OtherUnit e other is ↦ rw is
    ]

    reuse_exposed_here : exposed_in (line_at (reuse t p a) p a) ≡ true
    reuse_exposed_here = ap exposed_in here ∙ mine_exposed
      where
        here : line_at (reuse t p a) p a ≡ mine
        here = rw (eq-eqb a a refl, eq-eqb (unit_at t p) (unit_at t p) refl)

    pub reuse_map : versioned_map (reuse t p a) ≡ map.read (versioned_map t) p a
    reuse_map = map_same (versioned_map (reuse t p a)) (map.read (versioned_map t) p a) (read_is (reuse t p a) refl refl reuse_committed reuse_version (λ q b h ne. ap (λ x. not (q == 0) && x) (reuse_exposed_other q b h ne)) (λ b ne. ap (λ x. not (p == 0) && x) (rw (ne_eqb b a ne)))
        (elim (cases_eq p 0) [
          | inl e ↦ rw (eq-eqb p 0 e)
          | inr ne ↦ rw (reuse_exposed_here, ne_eqb p 0 ne, no_exposure (line_at t p a) inactive, or_none (version_in (line_at t p a)), no_version (line_at t p a) inactive)
        ]))

  -- ---- a hit

  module _ (hit : is_active (line_at t p a) ≡ true) where
    own : (l : Line) × (line_at t p a ≡ Some l) × (l.commit ≡ false)
    own = active_parts (line_at t p a) hit

    own_line : IsActiveLine t a own.0 p
    own_line = let w = (sound.sound_lines (unit_at t p) a own.0 own.1).active own.2 in
        subst (IsActiveLine t a own.0) (same_place w.0 w.2.within w.1) w.2

    -- the line holds what its task reads
    pub hit_value : value_in (line_at t p a) ≡ view (versioned_map t) p a
    hit_value = ap value_in own.1 ∙ own_line.current

    recorded : p ≢ 0 → (not (p == 0) && exposed_in (line_at t p a)) ≡ ((not (p == 0) && exposed_in (line_at t p a)) || (not (p == 0) && is_none (own_version t p a)))
    recorded ne = elim (cases_Bool own.0.store) [
      | inl dirty ↦
          let version : own_version t p a ≡ Some own.0.value = own_above t p a ne ∙ ap version_in own.1 ∙ rw (own.2, dirty) in
          rw (version, ne_eqb p 0 ne) (sym (or_false _))
      | inr clean ↦ elim (own_line.loaded clean) [
        | inl e ↦ absurd (ne e)
        | inr load ↦
            let exposed : exposed_in (line_at t p a) ≡ true = ap exposed_in own.1 ∙ rw (own.2, load) in
            rw (exposed, ne_eqb p 0 ne)
      ]
    ]
      where
        or_false : (x : Bool) → (x || false) ≡ x
        or_false true = refl
        or_false false = refl

    pub hit_map : versioned_map t ≡ map.read (versioned_map t) p a
    hit_map = map_same (versioned_map t) (map.read (versioned_map t) p a) (read_is t refl refl (λ b. refl) (λ q b h. refl) (λ q b h ne. refl) (λ b ne. refl)
        (elim (cases_eq p 0) [ inl e ↦ rw (eq-eqb p 0 e) | inr ne ↦ recorded ne ]))

  -- ---- any read

  pub read_sound : a < t.words → IsSound (read t p a)
  read_sound known = elim (cases_Bool (is_active (line_at t p a))) [
    | inl hit ↦ rw hit sound
    | inr miss ↦ elim (cases_Bool (is_reusable (line_at t p a))) [
      | inl reusable ↦ rw (miss, reusable) (reuse_sound reusable)
      | inr other ↦ rw (miss, other) (fill_sound known miss)
    ]
  ]

  pub read_map : a < t.words → versioned_map (read t p a) ≡ map.read (versioned_map t) p a
  read_map known = elim (cases_Bool (is_active (line_at t p a))) [
    | inl hit ↦ rw hit (hit_map hit)
    | inr miss ↦ elim (cases_Bool (is_reusable (line_at t p a))) [
      | inl reusable ↦ rw (miss, reusable) (reuse_map reusable)
      | inr other ↦ rw (miss, other) (fill_map known miss)
    ]
  ]
