-- A commit keeps the line table sound, and is the map's.
use Rattle.std.proofs.Common.{◌≡◌, ◌⊎◌, ◌≢◌, refl, sym, ap, ◌∙◌, subst, ℕ, suc, zero, ◌+◌, ◌-◌, ◌<◌, ◌≤◌, Some, None, true, false, Bool, cond, not, ◌&&◌, ◌||◌, Option, length, inl, inr, arith, true≢false, unwrap_or, is_some, leb, eq-eqb, ne_eqb, length-drop, get_or-drop}
use Rattle.std.specs.Bool.{◌==◌}
use Rattle.std.specs.Option.{option_or}
use Rattle.std.proofs.lemmas.Bool.{cases_Bool, cases_eq, le-leb, lt-leb}
use Rattle.svc_bus_laws.specs.Search.{all_below}
use Rattle.svc_bus_laws.specs.Versioned.{Row, Versioned, fresh_row, row_at, version, is_exposed, latest, view}
use Rattle.svc_bus_laws.specs.Versioned as map
use Rattle.svc_bus_laws.specs.LineTable.{Line, LineTable, version_in, exposed_in, is_committed_dirty, task_in, value_in, unit_at, line_at, is_newest, newest, value_of, committed_value, own_version, versioned_map}
use Rattle.svc_bus_laws.specs.Steps.{line_after_commit, commit}
use Rattle.svc_bus_laws.specs.Sound.{IsActiveLine, IsCommittedLine, IsSoundLine, IsSound}
use Rattle.svc_bus_laws.proofs.Searches.{least_found, all_from, all_refuted}
use Rattle.svc_bus_laws.proofs.Maps.{latest_same, latest_first, map_same, commit_count, commit_version, commit_exposed_head, commit_exposed}
use Rattle.svc_bus_laws.proofs.Tables.{SameCommitted, same_line, committed_same, committed_none, view_is, own_above, or_none, some_line, none_line, rows_count, version_is, exposed_is}

-- ---- settled lines

settled_parts : (line : Option Line) (l : Line) → line_after_commit line ≡ Some l → (k : Line) × (line ≡ Some k) × (record k { commit = true } ≡ l)
settled_parts None l e = none_line l e
settled_parts (Some k) l e = (k, refl, some_line _ _ e)

-- what becomes a committed dirty line was one, or was a version
settled_dirty : (line : Option Line) → version_in line ≡ None → SameCommitted (line_after_commit line) line
settled_dirty None e = same_line _ _ refl
settled_dirty (Some l) e = record { dirty = go l.commit l.store refl refl; task = λ d. refl; value = λ d. refl }
  where
    go : (c s : Bool) → l.commit ≡ c → l.store ≡ s → l.store ≡ (l.commit && l.store)
    go true s x y = rw x
    go false false x y = rw (x, y)
    go false true x y = absurd (true≢false (ap is_some (rw (x, y) at e)))

version_parts : (line : Option Line) (x : ℕ) → version_in line ≡ Some x → (l : Line) × (line ≡ Some l) × (l.commit ≡ false) × (l.store ≡ true) × (l.value ≡ x)
version_parts None x e = absurd (true≢false (sym (ap is_some e)))
version_parts (Some l) x e = go l.commit l.store refl refl
  where
    value : (i j : ℕ) → ◌≡◌ {A = Option ℕ} (Some i) (Some j) → i ≡ j
    value i j e = ap (λ o. unwrap_or o 0) e

    go : (c s : Bool) → l.commit ≡ c → l.store ≡ s → (k : Line) × (◌≡◌ {A = Option Line} (Some l) (Some k)) × (k.commit ≡ false) × (k.store ≡ true) × (k.value ≡ x)
    go false true c s = (l, refl, c, s, value l.value x (rw (c, s) at e))
    go false false c s = absurd (true≢false (sym (ap is_some (rw (c, s) at e))))
    go true s' c s = absurd (true≢false (sym (ap is_some (rw c at e))))

none_both : (x : Bool) → cond {A = Option ℕ} x None None ≡ None
none_both true = refl
none_both false = refl

module _ (t : LineTable) (sound : IsSound t) (has_head : 0 < length t.units) where
  abbrev after : LineTable
  after = commit t

  abbrev head : ℕ
  head = unit_at t 0

  head_lines : (v b : ℕ) → v ≡ head → after.lines v b ≡ line_after_commit (t.lines v b)
  head_lines v b e = rw (eq-eqb v head e)

  other_lines : (v b : ℕ) → v ≢ head → after.lines v b ≡ t.lines v b
  other_lines v b ne = rw (ne_eqb v head ne)

  commit_units : length after.units ≡ length t.units - 1
  commit_units = length-drop 1 t.units

  next_unit : (q : ℕ) → unit_at after q ≡ unit_at t (suc q)
  next_unit q = get_or-drop 1 t.units q 0 ∙ ap (unit_at t) (omega arith)

  next_line : (q b : ℕ) → suc q < length t.units → line_at after q b ≡ line_at t (suc q) b
  next_line q b h = ap (λ v. after.lines v b) (next_unit q) ∙ other_lines (unit_at t (suc q)) b (λ e. absurd (omega (arith, sound.distinct_units (suc q) 0 h has_head e)))

  pub next_version : (q b : ℕ) → suc q < length t.units → own_version after q b ≡ own_version t (suc q) b
  next_version q b h =
      ap (λ x. option_or (version_in x) (cond (q == 0) None None)) (next_line q b h)
      ∙ ap (option_or (version_in (line_at t (suc q) b))) (none_both (q == 0))
      ∙ or_none (version_in (line_at t (suc q) b))
      ∙ sym (own_above t (suc q) b (omega arith))

  -- ---- the committed values

  -- the line of a task before the head, as a test of the newest sees it
  low : (line : Option Line) (v b n : ℕ) → t.lines v b ≡ line → t.commits ≤ n → (not (is_committed_dirty line) || leb (task_in line) n) ≡ true
  low None v b n e h = refl
  low (Some k) v b n e h = elim (cases_Bool k.commit) [
    | inr clear ↦ rw clear
    | inl set ↦ rw (le-leb k.task n (omega (arith, h, ((sound.sound_lines v b k e).committed set).older))) (right_true (not (k.commit && k.store)))
  ]
    where
      right_true : (x : Bool) → (x || true) ≡ true
      right_true true = refl
      right_true false = refl

  module _ (b : ℕ) (l : Line) (is : line_at t 0 b ≡ Some l) (clear : l.commit ≡ false) (dirty : l.store ≡ true) where
    head_place : IsActiveLine t b l 0
    head_place = let k = (sound.sound_lines head b l is).active clear in
        subst (IsActiveLine t b l) (sound.distinct_units k.0 0 k.2.within has_head k.1) k.2

    task_is : l.task ≡ t.commits
    task_is = omega (arith, head_place.task_is)

    abbrev chosen : Line
    chosen = record l { commit = true }

    here : after.lines head b ≡ Some chosen
    here = head_lines head b refl ∙ ap line_after_commit is

    -- the test of the newest at a unit, by its line
    abbrev test : Option Line → ℕ → Bool
    test x v = not (is_committed_dirty (after.lines v b)) || leb (task_in (after.lines v b)) (task_in x)

    each : (v : ℕ) → test (Some chosen) v ≡ true
    each v = elim (cases_eq v head) [
      | inr ne ↦ ap (λ x. not (is_committed_dirty x) || leb (task_in x) l.task) (other_lines v b ne) ∙ low (t.lines v b) v b l.task refl (omega (arith, task_is))
      | inl e ↦ ap (λ x. not (is_committed_dirty x) || leb (task_in x) l.task) (ap (λ u. after.lines u b) e ∙ here) ∙ rw (dirty, le-leb l.task l.task (omega arith))
    ]

    passes : is_newest after b head ≡ true
    passes = ap (λ x. is_committed_dirty x && all_below t.caches (test x)) here ∙ rw (dirty, all_from t.caches (test (Some chosen)) (λ v h. each v))

    refuted : (k : ℕ) (j : Option Line) → t.lines k b ≡ j → (is_committed_dirty j && all_below t.caches (test j)) ≡ false
    refuted k None e = refl
    refuted k (Some j) e = elim (cases_Bool j.commit) [
      | inr clear' ↦ rw clear'
      | inl set ↦
          let older = ((sound.sound_lines k b j e).committed set).older in
          let fails : test (Some j) head ≡ false = ap (λ x. not (is_committed_dirty x) || leb (task_in x) j.task) here ∙ rw (dirty, lt-leb l.task j.task (omega (arith, older, task_is))) in
          rw (all_refuted t.caches (test (Some j)) head (sound.known_units 0 has_head) fails) (right_false _)
    ]
      where
        right_false : (x : Bool) → (x && false) ≡ false
        right_false true = refl
        right_false false = refl

    newest_is : newest after b ≡ Some head
    newest_is = least_found t.caches (is_newest after b) head (record {
      within = sound.known_units 0 has_head;
      passes = passes;
      before = λ k h. let ne : k ≢ head = omega (arith, h) in ap (λ x. is_committed_dirty x && all_below t.caches (test x)) (other_lines k b ne) ∙ refuted k (t.lines k b) refl;
    })

    head_committed : committed_value after b ≡ l.value
    head_committed = ap (value_of after b) newest_is ∙ ap value_in here

  -- the head's version replaces the committed value
  pub commit_committed : (b : ℕ) → committed_value after b ≡ unwrap_or (own_version t 0 b) (committed_value t b)
  commit_committed b = go (t.spill b) (version_in (line_at t 0 b)) refl refl
    where
      dirty_same : version_in (line_at t 0 b) ≡ None → (v : ℕ) → SameCommitted (after.lines v b) (t.lines v b)
      dirty_same none v = elim (cases_eq v head) [
        | inr ne ↦ same_line _ _ (other_lines v b ne)
        | inl e ↦ let s = settled_dirty (t.lines v b) (ap (λ u. version_in (t.lines u b)) e ∙ none) in
            record { dirty = ap is_committed_dirty (head_lines v b e) ∙ s.dirty; task = λ d. ap task_in (head_lines v b e) ∙ s.task d; value = λ d. ap value_in (head_lines v b e) ∙ s.value d }
      ]

      go : (o x : Option ℕ) → t.spill b ≡ o → version_in (line_at t 0 b) ≡ x → committed_value after b ≡ unwrap_or (own_version t 0 b) (committed_value t b)
      go (Some s) x e f =
          let old = sound.sound_spills b (ap is_some e) in
          let own : own_version t 0 b ≡ Some s = ap (λ o. option_or o (t.spill b)) old.replaced ∙ e in
          committed_none after b (λ v. (dirty_same old.replaced v).dirty ∙ old.purged v) ∙ ap (λ o. unwrap_or o (t.backing b)) e ∙ sym (ap (λ o. unwrap_or o (committed_value t b)) own)
      go None None e f =
          let own : own_version t 0 b ≡ None = ap (λ o. option_or o (t.spill b)) f ∙ e in
          committed_same after t b refl (dirty_same f) (ap (λ o. unwrap_or o (t.backing b)) e) ∙ sym (ap (λ o. unwrap_or o (committed_value t b)) own)
      go None (Some x) e f =
          let l = version_parts (line_at t 0 b) x f in
          let own : own_version t 0 b ≡ Some x = ap (λ o. option_or o (t.spill b)) f in
          head_committed b l.0 l.1 l.2 l.3 ∙ l.4 ∙ sym (ap (λ o. unwrap_or o (committed_value t b)) own)

  next_view : (q b : ℕ) → suc q < length t.units → view (versioned_map after) q b ≡ view (versioned_map t) (suc q) b
  next_view q b h =
      view_is after q b (omega (arith, h, commit_units))
      ∙ latest_same _ _ _ _ (suc q) (commit_committed b) (λ r k. next_version r b (omega (arith, h, k)))
      ∙ sym (latest_first (λ r. own_version t r b) (committed_value t b) (suc q))
      ∙ sym (view_is t (suc q) b h)

  -- ---- soundness

  unmarked_kept : (v b : ℕ) (l : Line) → IsSoundLine t v b l → l.stale ≡ false → (q : ℕ) → q < length after.units → l.task < suc t.commits + q → own_version after q b ≡ None
  unmarked_kept v b l old d q h k = let i : suc q < length t.units = omega (arith, h, commit_units) in next_version q b i ∙ old.unmarked d (suc q) i (omega (arith, k))

  -- a line that was committed before
  older_line : (v b : ℕ) (l : Line) → IsSoundLine t v b l → IsCommittedLine t b l → IsCommittedLine after b l
  older_line v b l old was = record {
    older = omega (arith, was.older);
    newest = λ s d. was.newest s d ∙ sym (commit_committed b ∙ ap (λ o. unwrap_or o (committed_value t b)) (old.unmarked d 0 has_head (omega (arith, was.older))));
  }

  head_line : (v b : ℕ) (l : Line) → v ≡ head → t.lines v b ≡ Some l → IsSoundLine after v b (record l { commit = true })
  head_line v b l here is = let old = sound.sound_lines v b l is in record {
    cached = old.cached;
    in_memory = old.in_memory;
    active = λ c. absurd (true≢false c);
    committed = λ c. elim (cases_Bool l.commit) [
      | inl set ↦ let k = older_line v b l old (old.committed set) in record { older = k.older; newest = k.newest }
      | inr clear ↦
          let k = old.active clear in
          let place : k.0 ≡ 0 = sound.distinct_units k.0 0 k.2.within has_head (k.1 ∙ here) in
          record {
            older = omega (arith, k.2.task_is, place);
            newest = λ s d. k.2.current ∙ ap (λ q. view (versioned_map t) q b) place ∙ view_is t 0 b has_head ∙ sym (commit_committed b);
          }
    ];
    unmarked = λ d q h k. unmarked_kept v b l old d q h k;
  }

  other_line : (v b : ℕ) (l : Line) → v ≢ head → t.lines v b ≡ Some l → IsSoundLine after v b l
  other_line v b l ne is = let old = sound.sound_lines v b l is in record {
    cached = old.cached;
    in_memory = old.in_memory;
    active = λ c.
        let k = old.active c in
        let far : k.0 ≢ 0 = λ z. ne (sym k.1 ∙ ap (unit_at t) z) in
        let next : suc (k.0 - 1) ≡ k.0 = omega (arith, far) in
        let inside : suc (k.0 - 1) < length t.units = omega (arith, next, k.2.within) in (
          k.0 - 1,
          next_unit (k.0 - 1) ∙ ap (unit_at t) next ∙ k.1,
          record {
            within = omega (arith, inside, commit_units);
            task_is = omega (arith, k.2.task_is, next);
            current = k.2.current ∙ ap (λ q. view (versioned_map t) q b) (sym next) ∙ sym (next_view (k.0 - 1) b inside);
            loaded = λ s. elim (k.2.loaded s) [ inl z ↦ absurd (far z) | inr load ↦ inr load ];
          },
        );
    committed = λ c. older_line v b l old (old.committed c);
    unmarked = λ d q h k. unmarked_kept v b l old d q h k;
  }

  commit_lines : (v b : ℕ) (l : Line) → after.lines v b ≡ Some l → IsSoundLine after v b l
  commit_lines v b l e = elim (cases_eq v head) [
    | inr ne ↦ other_line v b l ne (sym (other_lines v b ne) ∙ e)
    | inl here ↦ let k = settled_parts (t.lines v b) l (sym (head_lines v b here) ∙ e) in subst (IsSoundLine after v b) k.2 (head_line v b k.0 here k.1)
  ]

  -- where a committed line comes from: it was one, or it was the head's
  origin : (v b : ℕ) (l : Line) → after.lines v b ≡ Some l → l.commit ≡ true → ((k : Line) × (t.lines v b ≡ Some k) × (k.commit ≡ true) × (k.task ≡ l.task) × (k.task < t.commits)) ⊎ ((v ≡ head) × (l.task ≡ t.commits))
  origin v b l e c = elim (cases_eq v head) [
    | inr ne ↦ let is = sym (other_lines v b ne) ∙ e in inl (l, is, c, refl, ((sound.sound_lines v b l is).committed c).older)
    | inl here ↦
        let k = settled_parts (t.lines v b) l (sym (head_lines v b here) ∙ e) in
        let task : k.0.task ≡ l.task = ap (λ (j : Line). j.task) k.2 in
        let old = sound.sound_lines v b k.0 k.1 in
        elim (cases_Bool k.0.commit) [
          | inl set ↦ inl (k.0, k.1, set, task, (old.committed set).older)
          | inr clear ↦
              let p = old.active clear in
              let place : p.0 ≡ 0 = sound.distinct_units p.0 0 p.2.within has_head (p.1 ∙ here) in
              inr (here, omega (arith, task, p.2.task_is, place))
        ]
  ]

  pub commit_sound : IsSound after
  commit_sound = record {
    distinct_units = λ q r h k e.
        let i : suc q < length t.units = omega (arith, h, commit_units) in
        let j : suc r < length t.units = omega (arith, k, commit_units) in
        omega (arith, sound.distinct_units (suc q) (suc r) i j (sym (next_unit q) ∙ e ∙ next_unit r));
    known_units = λ q h. rw (next_unit q) (sound.known_units (suc q) (omega (arith, h, commit_units)));
    sound_lines = commit_lines;
    distinct_versions = λ u v b k l e f c d number. elim (origin u b k e c) [
      | inl x ↦ elim (origin v b l f d) [
        | inl y ↦ sound.distinct_versions u v b x.0 y.0 x.1 y.1 x.2 y.2 (x.3 ∙ number ∙ sym y.3)
        | inr y ↦ absurd (omega (arith, x.3, x.4, y.1, number))
      ]
      | inr x ↦ elim (origin v b l f d) [
        | inl y ↦ absurd (omega (arith, y.3, y.4, x.1, number))
        | inr y ↦ x.0 ∙ sym y.0
      ]
    ];
    sound_spills = λ b some. absurd (true≢false (sym some));
  }

  -- ---- the map

  row_exposed : (q b : ℕ) → q < length after.units → is_exposed (versioned_map after) q b ≡ is_exposed (map.commit (versioned_map t)) q b
  row_exposed zero b h = exposed_is after 0 b h ∙ sym (commit_exposed_head (versioned_map t) b)
  row_exposed (suc q) b h =
      let i : suc (suc q) < length t.units = omega (arith, h, commit_units) in
      let far : suc q ≢ 0 = omega arith in
      let further : suc (suc q) ≢ 0 = omega arith in
      let next : 1 + suc q ≡ suc (suc q) = omega arith in
      exposed_is after (suc q) b h
      ∙ ap (λ x. not (suc q == 0) && exposed_in x) (next_line (suc q) b i)
      ∙ (rw (ne_eqb (suc q) 0 far, ne_eqb (suc (suc q)) 0 further))
      ∙ sym (exposed_is t (suc (suc q)) b i)
      ∙ sym (commit_exposed (versioned_map t) q b ∙ ap (λ r. is_exposed (versioned_map t) r b) next)

  pub commit_map : versioned_map after ≡ map.commit (versioned_map t)
  commit_map = map_same (versioned_map after) (map.commit (versioned_map t)) (record {
    commits = refl;
    committed = λ b. commit_committed b ∙ ap (λ o. unwrap_or o (committed_value t b)) (sym (version_is t 0 b has_head));
    count = rows_count after ∙ commit_units ∙ sym (commit_count (versioned_map t) ∙ ap (λ k. k - 1) (rows_count t));
    versions = λ q h b.
        let k : q < length after.units = omega (arith, h, rows_count after) in
        let i : suc q < length t.units = omega (arith, k, commit_units) in
        let next : 1 + q ≡ suc q = omega arith in
        version_is after q b k ∙ next_version q b i ∙ sym (version_is t (suc q) b i) ∙ sym (commit_version (versioned_map t) q b ∙ ap (λ r. version (versioned_map t) r b) next);
    exposed = λ q h b. row_exposed q b (omega (arith, h, rows_count after));
  })
