-- The write keeps the line table sound, and is the map's write.
use Rattle.std.proofs.Common.{◌≡◌, ◌⊎◌, ◌≢◌, refl, sym, ap, ◌∙◌, subst, ℕ, suc, ◌+◌, ◌<◌, ◌≤◌, Some, None, true, false, Bool, cond, not, ◌&&◌, ◌||◌, Option, length, inl, inr, arith, true≢false, unwrap_or, is_some, leb, ltb, eq-eqb, ne_eqb, ltb-false, length-take, get_or-take}
use Rattle.std.specs.Bool.{◌==◌}
use Rattle.std.specs.Option.{option_or}
use Rattle.std.proofs.lemmas.Bool.{cases_Bool, cases_eq, leb-true, leb-false, or_parts}
use Rattle.svc_bus_laws.specs.Versioned.{Row, Versioned, fresh_row, version, is_exposed, latest, view}
use Rattle.svc_bus_laws.specs.Versioned as map
use Rattle.svc_bus_laws.specs.LineTable.{Line, LineTable, version_in, exposed_in, is_committed_dirty, unit_at, line_at, committed_value, own_version, versioned_map}
use Rattle.svc_bus_laws.specs.Steps.{with_line, line_after_purging, line_after_squashing, line_after_marking, store, survivors, write, written_line}
use Rattle.svc_bus_laws.specs.Sound.{IsSoundLine, IsSpilled, IsSound}
use Rattle.svc_bus_laws.proofs.Maps.{latest_same, latest_hidden, map_same, Guarded, survivors_are, write_count, write_version_here, write_version_other, write_exposed}
use Rattle.svc_bus_laws.proofs.Tables.{SameCommitted, same_line, both_clean, committed_same, view_is, purged_version, purged_exposed, purged_clean, purged_was, OtherWord, SameLine, OtherUnit, changed, purge_committed, own_above, mark, marked_was, lines_at, some_line, none_line, rows_count, version_is, exposed_is, at_same, at_other}
use Rattle.svc_bus_laws.proofs.Numbered.{numbered_write, write_is}
use Rattle.svc_bus_laws.proofs.ReadLaws.{not_overtaken}

-- ---- what a squash and a mark leave

pub squashed_kept : (n : ℕ) (line : Option Line) → ((l : Line) → line ≡ Some l → l.commit ≡ false → l.task < n) → line_after_squashing n line ≡ line
squashed_kept n None below = refl
squashed_kept n (Some l) below = elim (cases_Bool l.commit) [
  | inl set ↦ stays (not l.commit && leb n l.task) (rw set)
  | inr clear ↦ stays (not l.commit && leb n l.task) (rw clear (above (leb n l.task) refl (below l refl clear)))
]
  where
    stays : (b : Bool) → b ≡ false → cond b None (Some l) ≡ Some l
    stays true e = absurd (true≢false e)
    stays false e = refl

    above : (b : Bool) → leb n l.task ≡ b → l.task < n → leb n l.task ≡ false
    above true e h = absurd (omega (arith, h, leb-true n l.task e))
    above false e h = e

-- a line that a squash leaves was there, and is not of a squashed task
pub squashed_was : (n : ℕ) (line : Option Line) (l : Line) → line_after_squashing n line ≡ Some l → (line ≡ Some l) × (l.commit ≡ false → l.task < n)
squashed_was n None l e = none_line l e
squashed_was n (Some k) l e = go (not k.commit && leb n k.task) refl e
  where
    go : (b : Bool) → (not k.commit && leb n k.task) ≡ b → cond b None (Some k) ≡ Some l → (Some k ≡ Some l) × (l.commit ≡ false → l.task < n)
    go true is e = none_line l e
    go false is e = (e, λ c. leb-false n l.task (low (not l.commit) (leb n l.task) (rw (some_line k l e) at is) (ap not c)))
      where
        low : (x y : Bool) → (x && y) ≡ false → x ≡ true → y ≡ false
        low true y e f = e
        low false y e f = absurd (true≢false (sym f))

pub squashed_dirty : (n : ℕ) (line : Option Line) → SameCommitted (line_after_squashing n line) line
squashed_dirty n None = same_line _ _ refl
squashed_dirty n (Some l) = elim (cases_Bool l.commit) [
  | inl set ↦ same_line _ _ (squashed_kept n (Some l) (λ k e c. absurd (true≢false (sym set ∙ ap (λ (j : Line). j.commit) (some_line l k e) ∙ c))))
  | inr clear ↦ both_clean _ _ (go (not l.commit && leb n l.task) clear) (rw clear)
]
  where
    go : (b : Bool) → l.commit ≡ false → is_committed_dirty (cond b None (Some l)) ≡ false
    go true e = refl
    go false e = rw e

pub marked_version : (n : ℕ) (line : Option Line) → version_in (line_after_marking n line) ≡ version_in line
marked_version n None = refl
marked_version n (Some l) = refl

pub marked_exposed : (n : ℕ) (line : Option Line) → exposed_in (line_after_marking n line) ≡ exposed_in line
marked_exposed n None = refl
marked_exposed n (Some l) = refl

pub marked_dirty : (n : ℕ) (line : Option Line) → is_committed_dirty (line_after_marking n line) ≡ is_committed_dirty line
marked_dirty n None = refl
marked_dirty n (Some l) = refl

-- ---- the write

module _ (t : LineTable) (p a w : ℕ) (sound : IsSound t) (within : p < length t.units) (known : a < t.words) where
  abbrev n : ℕ
  n = survivors t p a

  abbrev after : LineTable
  after = numbered_write t p a w

  abbrev line : Option Line
  line = Some (written_line t p a w)

  abbrev others : Option Line → Option Line
  others x = line_after_marking (t.commits + p) (line_after_purging x)

  abbrev stored : ℕ → ℕ → Option Line
  stored = with_line t.lines (unit_at t p) a line others

  guard : Guarded (versioned_map t) p a n
  guard = survivors_are (versioned_map t) p a (omega (arith, within, rows_count t))

  room : n ≤ length t.units
  room = omega (arith, guard.within, rows_count t)

  same_place : (q : ℕ) → q < length t.units → unit_at t q ≡ unit_at t p → q ≡ p
  same_place q h e = sound.distinct_units q p h within e

  pub write_units : length after.units ≡ n
  write_units = length-take n t.units ∙ omega (arith, room)

  kept_unit : (q : ℕ) → q < n → unit_at after q ≡ unit_at t q
  kept_unit q h = get_or-take n t.units q 0 h

  -- an active line that is stored in a surviving task's unit is not squashed
  stays : (q b : ℕ) → q < n → line_after_squashing (t.commits + n) (stored (unit_at t q) b) ≡ stored (unit_at t q) b
  stays q b h = squashed_kept (t.commits + n) (stored (unit_at t q) b) (λ l e c. low l e c)
    where
      old : (v : ℕ) (l : Line) → v ≡ unit_at t q → t.lines v b ≡ Some l → l.commit ≡ false → l.task < t.commits + n
      old v l same e c =
          let k = (sound.sound_lines v b l e).active c in
          let place : k.0 ≡ q = sound.distinct_units k.0 q k.2.within (omega (arith, h, room)) (k.1 ∙ same) in
          omega (arith, k.2.task_is, place, h)

      low : (l : Line) → stored (unit_at t q) b ≡ Some l → l.commit ≡ false → l.task < t.commits + n
      low l e c = elim (changed t.lines (unit_at t p) a line others (unit_at t q) b) [
        | OtherWord ne is ↦ old (unit_at t q) l refl (sym is ∙ e) c
        | SameLine here same is ↦ let task = ap (λ (k : Line). k.task) (some_line _ _ (sym is ∙ e)) in omega (arith, task, guard.reaches)
        | OtherUnit here ne is ↦
            let k = marked_was _ _ l (sym is ∙ e) in
            let task = ap (λ (j : Line). j.task) k.2 in
            let was = old (unit_at t q) k.0 refl (purged_was _ k.0 k.1) (ap (λ (j : Line). j.commit) k.2 ∙ c) in
            omega (arith, task, was)
      ]

  line_is : (q b : ℕ) → q < n → line_at after q b ≡ stored (unit_at t q) b
  line_is q b h = ap (λ v. line_after_squashing (t.commits + n) (stored v b)) (kept_unit q h) ∙ stays q b h

  -- a line of another word, or of another surviving task, keeps its version
  write_version_in : (q b : ℕ) → q < n → (q ≢ p) ⊎ (b ≢ a) → version_in (line_at after q b) ≡ version_in (line_at t q b)
  write_version_in q b h other = ap version_in (line_is q b h) ∙ elim (changed t.lines (unit_at t p) a line others (unit_at t q) b) [
    | OtherWord ne is ↦ ap version_in is
    | SameLine here same is ↦ elim other [ inl ne ↦ absurd (ne (same_place q (omega (arith, h, room)) same)) | inr ne ↦ absurd (ne here) ]
    | OtherUnit here ne is ↦ ap version_in is ∙ marked_version _ (line_after_purging (line_at t q b)) ∙ purged_version (line_at t q b)
  ]

  here_line : line_at after p a ≡ line
  here_line = line_is p a guard.reaches ∙ rw (eq-eqb a a refl, eq-eqb (unit_at t p) (unit_at t p) refl)

  pub write_version : own_version after p a ≡ Some w
  write_version = ap (λ x. option_or (version_in x) (cond (p == 0) (after.spill a) None)) here_line

  pub other_version : (q b : ℕ) → q < n → (q ≢ p) ⊎ (b ≢ a) → own_version after q b ≡ own_version t q b
  other_version q b h other =
      ap (λ o. option_or o (cond (q == 0) (after.spill b) None)) (write_version_in q b h other)
      ∙ ap (option_or (version_in (line_at t q b))) (elim (cases_eq q 0) [
        | inr ne ↦ rw (ne_eqb q 0 ne)
        | inl e ↦ rw (eq-eqb q 0 e) (elim (cases_eq b a) [
          | inr ne ↦ at_other t.spill a (cond (p == 0) None (t.spill a)) b ne
          | inl word ↦ rw word (at_same t.spill a (cond (p == 0) None (t.spill a)) a refl ∙ elim other [
            | inl ne ↦ rw (ne_eqb p 0 (λ z. ne (e ∙ sym z)))
            | inr ne ↦ absurd (ne word)
          ])
        ])
      ])

  pub write_committed : (b : ℕ) → committed_value after b ≡ committed_value t b
  write_committed b =
      committed_same after (store t p a w) b refl (λ v. squashed_dirty (t.commits + n) (stored v b)) refl
      ∙ purge_committed t (unit_at t p) a line others (store t p a w).spill refl (λ x. marked_dirty (t.commits + p) (line_after_purging x) ∙ purged_clean x) b

  -- ---- views

  view_other : (q b : ℕ) → q < n → (q < p) ⊎ (b ≢ a) → view (versioned_map after) q b ≡ view (versioned_map t) q b
  view_other q b h other =
      view_is after q b (omega (arith, h, write_units))
      ∙ latest_same _ _ _ _ (suc q) (write_committed b) (λ r k. other_version r b (omega (arith, h, k)) (elim other [ inl lt ↦ inl (λ e. omega (arith, lt, e, k)) | inr ne ↦ inr ne ]))
      ∙ sym (view_is t q b (omega (arith, h, room)))

  view_here : view (versioned_map after) p a ≡ w
  view_here = view_is after p a (omega (arith, guard.reaches, write_units)) ∙ ap (λ o. unwrap_or o (latest (λ q. own_version after q a) (committed_value after a) p)) write_version

  view_above : (q r : ℕ) → q < n → p < r → r ≤ q → is_some (own_version t r a) ≡ true → view (versioned_map after) q a ≡ view (versioned_map t) q a
  view_above q r h k l some =
      view_is after q a (omega (arith, h, write_units))
      ∙ latest_hidden _ _ _ _ (suc q) r (omega (arith, l)) some (λ s i j. other_version s a (omega (arith, h, i)) (inl (λ e. omega (arith, e, k, j))))
      ∙ sym (view_is t q a (omega (arith, h, room)))

  -- an active line of the word above the writer lies behind a version above the writer's
  behind : (q : ℕ) (l : Line) → q < n → p < q → line_at t q a ≡ Some l → l.commit ≡ false → (l.store ≡ false → (q ≡ 0) ⊎ (l.load ≡ true)) → (r : ℕ) × (p < r) × (r ≤ q) × (is_some (own_version t r a) ≡ true)
  behind q l h k is clear loaded = elim (cases_Bool l.store) [
    | inl dirty ↦
        let own : own_version t q a ≡ Some l.value = own_above t q a (omega (arith, k)) ∙ ap version_in is ∙ rw (clear, dirty) in
        (q, k, omega arith, ap is_some own)
    | inr clean ↦ elim (loaded clean) [
      | inl e ↦ absurd (omega (arith, e, k))
      | inr load ↦
          let exposed : exposed_in (line_at t q a) ≡ true = ap exposed_in is ∙ rw (clear, load) in
          let z : q ≢ 0 = omega (arith, k) in
          let g = guard.guarded q k h (exposed_is t q a (omega (arith, h, room)) ∙ rw (exposed, ne_eqb q 0 z)) in
          (g.0, g.1, omega (arith, g.2), ap is_some (sym (version_is t g.0 a (omega (arith, g.2, h, room)))) ∙ g.3)
    ]
  ]

  -- ---- soundness

  written_sound : IsSoundLine after (unit_at t p) a (written_line t p a w)
  written_sound = record {
    cached = sound.known_units p within;
    in_memory = known;
    active = λ e. (
      p,
      kept_unit p guard.reaches,
      record {
        within = omega (arith, guard.reaches, write_units);
        task_is = refl;
        current = sym view_here;
        loaded = λ s. absurd (true≢false s);
      },
    );
    committed = λ e. absurd (true≢false (sym e));
    unmarked = λ e q h k. other_version q a (omega (arith, h, write_units)) (inl (omega (arith, k))) ∙ not_overtaken t n p a e q (omega (arith, h, write_units)) (omega (arith, k));
  }

  survivor : (l : Line) (q : ℕ) → l.task ≡ t.commits + q → l.task < t.commits + n → q < n
  survivor l q e h = omega (arith, e, h)

  other_word : (v b : ℕ) (l : Line) → b ≢ a → IsSoundLine t v b l → (l.commit ≡ false → l.task < t.commits + n) → IsSoundLine after v b l
  other_word v b l ne old low = record {
    cached = old.cached;
    in_memory = old.in_memory;
    active = λ e. let k = old.active e in let h = survivor l k.0 k.2.task_is (low e) in (
      k.0,
      kept_unit k.0 h ∙ k.1,
      record {
        within = omega (arith, h, write_units);
        task_is = k.2.task_is;
        current = k.2.current ∙ sym (view_other k.0 b h (inr ne));
        loaded = k.2.loaded;
      },
    );
    committed = λ e. record { older = (old.committed e).older; newest = λ s d. (old.committed e).newest s d ∙ sym (write_committed b) };
    unmarked = λ e q h k. other_version q b (omega (arith, h, write_units)) (inr ne) ∙ old.unmarked e q (omega (arith, h, write_units, room)) k;
  }

  other_unit : (v : ℕ) (k : Line) → v ≢ unit_at t p → t.lines v a ≡ Some k → IsSoundLine t v a k → (k.commit ≡ false → k.task < t.commits + n) → IsSoundLine after v a (mark (t.commits + p) k)
  other_unit v k ne is old low = record {
    cached = old.cached;
    in_memory = old.in_memory;
    active = λ e. let c = old.active e in let h = survivor k c.0 c.2.task_is (low e) in (
      c.0,
      kept_unit c.0 h ∙ c.1,
      record {
        within = omega (arith, h, write_units);
        task_is = c.2.task_is;
        current = c.2.current ∙ sym (elim (sides c.0 (λ z. ne (sym c.1 ∙ ap (unit_at t) z))) [
          | inl below ↦ view_other c.0 a h (inl below)
          | inr above ↦
              let g = behind c.0 k h above (ap (λ u. t.lines u a) c.1 ∙ is) e c.2.loaded in
              view_above c.0 g.0 h g.1 g.2 g.3
        ]);
        loaded = c.2.loaded;
      },
    );
    committed = λ e. record { older = (old.committed e).older; newest = λ s d. absurd (true≢false (sym (ap (λ x. x || ltb k.task (t.commits + p)) e) ∙ (or_parts k.stale (k.commit || ltb k.task (t.commits + p)) d).1)) };
    unmarked = λ e q h i.
        let first = or_parts k.stale (k.commit || ltb k.task (t.commits + p)) e in
        let second = or_parts k.commit (ltb k.task (t.commits + p)) first.1 in
        let high = ltb-false k.task (t.commits + p) second.1 in
        let c = old.active second.0 in
        let far : c.0 ≢ p = λ z. ne (sym c.1 ∙ ap (unit_at t) z) in
        other_version q a (omega (arith, h, write_units)) (inl (omega (arith, i, high, c.2.task_is, far))) ∙ old.unmarked first.0 q (omega (arith, h, write_units, room)) i;
  }
    where
      sides : (q : ℕ) → q ≢ p → (q < p) ⊎ (p < q)
      sides q ne = grind arith

  write_lines : (v b : ℕ) (l : Line) → after.lines v b ≡ Some l → IsSoundLine after v b l
  write_lines v b l e = go (squashed_was (t.commits + n) (stored v b) l e)
    where
      go : (stored v b ≡ Some l) × (l.commit ≡ false → l.task < t.commits + n) → IsSoundLine after v b l
      go s = elim (changed t.lines (unit_at t p) a line others v b) [
        | OtherWord ne is ↦ other_word v b l ne (sound.sound_lines v b l (sym is ∙ s.0)) s.1
        | SameLine here same is ↦ rw (here, same, ← some_line _ _ (sym is ∙ s.0)) written_sound
        | OtherUnit here ne is ↦
            let m = marked_was _ _ l (sym is ∙ s.0) in
            let was = purged_was (t.lines v b) m.0 m.1 in
            let was_here : t.lines v a ≡ Some m.0 = sym (lines_at t v v b a refl here) ∙ was in
            rw (here, ← m.2) (other_unit v m.0 ne was_here (sound.sound_lines v a m.0 was_here) (λ c. let task = ap (λ (j : Line). j.task) m.2 in omega (arith, task, s.1 (sym (ap (λ (j : Line). j.commit) m.2) ∙ c))))
      ]

  write_old : (v b : ℕ) (l : Line) → after.lines v b ≡ Some l → l.commit ≡ true → (k : Line) × (t.lines v b ≡ Some k) × (k.commit ≡ true) × (k.task ≡ l.task)
  write_old v b l e c = go (squashed_was (t.commits + n) (stored v b) l e)
    where
      go : (stored v b ≡ Some l) × (l.commit ≡ false → l.task < t.commits + n) → (k : Line) × (t.lines v b ≡ Some k) × (k.commit ≡ true) × (k.task ≡ l.task)
      go s = elim (changed t.lines (unit_at t p) a line others v b) [
        | OtherWord ne is ↦ (l, sym is ∙ s.0, c, refl)
        | SameLine here same is ↦ absurd (true≢false (sym c ∙ sym (ap (λ (k : Line). k.commit) (some_line _ _ (sym is ∙ s.0)))))
        | OtherUnit here ne is ↦ let m = marked_was _ _ l (sym is ∙ s.0) in (m.0, purged_was _ m.0 m.1, ap (λ (j : Line). j.commit) m.2 ∙ c, ap (λ (j : Line). j.task) m.2)
      ]

  write_spills : (b : ℕ) → is_some (after.spill b) ≡ true → IsSpilled after b
  write_spills b some = record {
    in_memory = old.in_memory;
    has_head = omega (arith, guard.reaches, write_units);
    replaced = write_version_in 0 b (omega (arith, guard.reaches)) other ∙ old.replaced;
    purged = λ v. (squashed_dirty (t.commits + n) (stored v b)).dirty ∙ elim (changed t.lines (unit_at t p) a line others v b) [
      | OtherWord ne is ↦ ap is_committed_dirty is ∙ old.purged v
      | SameLine here same is ↦ ap is_committed_dirty is
      | OtherUnit here ne is ↦ ap is_committed_dirty is ∙ marked_dirty _ (line_after_purging (t.lines v b)) ∙ purged_clean (t.lines v b)
    ];
  }
    where
      both : (is_some (t.spill b) ≡ true) × ((0 ≢ p) ⊎ (b ≢ a))
      both = elim (cases_eq b a) [
        | inr ne ↦ (sym (ap is_some (at_other t.spill a (cond (p == 0) None (t.spill a)) b ne)) ∙ some, inr ne)
        | inl e ↦ elim (cases_eq p 0) [
          | inl z ↦ absurd (true≢false (sym some ∙ ap is_some (at_same t.spill a (cond (p == 0) None (t.spill a)) b e) ∙ rw (eq-eqb p 0 z)))
          | inr ne ↦ (rw e (sym (ap is_some (at_same t.spill a (cond (p == 0) None (t.spill a)) b e) ∙ rw (ne_eqb p 0 ne)) ∙ some), inl (λ z. ne (sym z)))
        ]
      ]

      old : IsSpilled t b
      old = sound.sound_spills b both.0

      other : (0 ≢ p) ⊎ (b ≢ a)
      other = both.1

  pub write_sound : IsSound after
  write_sound = record {
    distinct_units = λ q r h k e. let i : q < n = omega (arith, h, write_units) in let j : r < n = omega (arith, k, write_units) in sound.distinct_units q r (omega (arith, i, room)) (omega (arith, j, room)) (sym (kept_unit q i) ∙ e ∙ kept_unit r j);
    known_units = λ q h. let i : q < n = omega (arith, h, write_units) in rw (kept_unit q i) (sound.known_units q (omega (arith, i, room)));
    sound_lines = write_lines;
    distinct_versions = λ u v b k l e f c d number.
        let x = write_old u b k e c in
        let y = write_old v b l f d in
        sound.distinct_versions u v b x.0 y.0 x.1 y.1 x.2 y.2 (x.3 ∙ number ∙ sym y.3);
    sound_spills = write_spills;
  }

  -- ---- the map

  write_exposed_in : (q b : ℕ) → q < n → exposed_in (line_at after q b) ≡ exposed_in (line_at t q b)
  write_exposed_in q b h = ap exposed_in (line_is q b h) ∙ elim (changed t.lines (unit_at t p) a line others (unit_at t q) b) [
    | OtherWord ne is ↦ ap exposed_in is
    | SameLine here same is ↦ ap exposed_in is ∙ sym (ap exposed_in (lines_at t _ _ _ _ same here))
    | OtherUnit here ne is ↦ ap exposed_in is ∙ marked_exposed _ (line_after_purging (line_at t q b)) ∙ purged_exposed (line_at t q b)
  ]

  pub write_map : versioned_map after ≡ map.write (versioned_map t) p a w
  write_map =
      let rows : p < length (versioned_map t).rows = omega (arith, within, rows_count t) in
      map_same (versioned_map after) (map.write (versioned_map t) p a w) (record {
        commits = refl;
        committed = write_committed;
        count = rows_count after ∙ write_units ∙ sym (write_count (versioned_map t) p a w rows ∙ omega (arith, guard.within));
        versions = λ q h b.
            let k : q < length after.units = omega (arith, h, rows_count after) in
            let i : q < n = omega (arith, k, write_units) in
            let j : q < length t.units = omega (arith, i, room) in
            version_is after q b k ∙ elim (cases_eq q p) [
              | inr ne ↦ other_version q b i (inl ne) ∙ sym (version_is t q b j) ∙ sym (write_version_other (versioned_map t) p a w rows q b i ne)
              | inl e ↦ rw e (elim (cases_eq b a) [
                | inl word ↦ rw word (write_version ∙ sym (write_version_here (versioned_map t) p a w rows guard.reaches a ∙ rw (eq-eqb a a refl)))
                | inr ne ↦ other_version p b guard.reaches (inr ne) ∙ sym (version_is t p b within) ∙ sym (write_version_here (versioned_map t) p a w rows guard.reaches b ∙ rw (ne_eqb a b (λ z. ne (sym z))))
              ])
            ];
        exposed = λ q h b.
            let k : q < length after.units = omega (arith, h, rows_count after) in
            let i : q < n = omega (arith, k, write_units) in
            let j : q < length t.units = omega (arith, i, room) in
            exposed_is after q b k ∙ ap (λ x. not (q == 0) && x) (write_exposed_in q b i) ∙ sym (exposed_is t q b j) ∙ sym (write_exposed (versioned_map t) p a w rows q b i);
      })

-- the write of the rules is the write by numbers
pub write_law : (t : LineTable) (p a w : ℕ) → IsSound t → p < length t.units → a < t.words → IsSound (write t p a w) × (versioned_map (write t p a w) ≡ map.write (versioned_map t) p a w)
write_law t p a w sound within known = subst (λ s. IsSound s × (versioned_map s ≡ map.write (versioned_map t) p a w)) (sym (write_is t p a w sound within)) (write_sound t p a w sound within known, write_map t p a w sound within known)
