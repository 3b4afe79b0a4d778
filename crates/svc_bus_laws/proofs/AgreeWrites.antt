-- The write without numbers: its lines and its order are those of each line table that the bus agrees with.
use Rattle.std.proofs.Common.{◌≡◌, ◌⊎◌, ◌≢◌, refl, sym, ap, ap₂, ◌∙◌, subst, ℕ, ◌+◌, ◌<◌, ◌≤◌, Some, None, true, false, Bool, cond, not, ◌&&◌, ◌||◌, Option, length, get_or, take, inl, inr, arith, true≢false, is_some, leb, ltb, eq-eqb, ne_eqb, lt-ltb, le-ltb, ltb-true, ltb-false}
use Rattle.std.specs.Bool.{◌==◌}
use Rattle.std.proofs.lemmas.Bool.{cases_Bool, cases_eq, leb-false, lt-leb}
use Rattle.svc_bus_laws.specs.Versioned as map
use Rattle.svc_bus_laws.specs.LineTable.{Line, LineTable, task_in, unit_at, versioned_map}
use Rattle.svc_bus_laws.specs.Steps.{line_after_purging, line_after_marking, line_after_squashing, written_line, survivors, write, is_overtaken}
use Rattle.svc_bus_laws.specs.BusLine.{is_dirty_line, purged_line, marked_line}
use Rattle.svc_bus_laws.specs.BusState.{BusState, Agrees, without_number, is_dirty, is_lower}
use Rattle.svc_bus_laws.specs.BusSteps.{line_after_cut, is_below, is_above, is_overtaken_line, written_bus_line, line_after_write, order_after_write, bus_write_leaving, bus_write}
use Rattle.svc_bus_laws.proofs.Searches.{any_found, any_none, any_same}
use Rattle.svc_bus_laws.proofs.Maps.{survivors_are}
use Rattle.svc_bus_laws.proofs.Tables.{rows_count}
use Rattle.svc_bus_laws.proofs.Numbered.{numbered_write, write_is}
use Rattle.svc_bus_laws.proofs.WriteLaws.{write_sound}
use Rattle.svc_bus_laws.proofs.SeenLaws.{dirty_line_is, unit_is, version_seen, exposed_seen, committed_seen, map_seen}
use Rattle.svc_bus_laws.proofs.AgreeSteps.{cut_line}

-- what is known of a dirty line that was not just written
record Stood (t : LineTable) (v x a m number' : ℕ) : Type 0 where
  line : Line
  there : t.lines v x ≡ Some line
  dirty : line.store ≡ true
  number : number' ≡ line.task
  active : x ≡ a → (line.commit ≡ false) × (line.task < m)

stood_word : (t : LineTable) (m v x a : ℕ) → x ≢ a → (line : Option Line) → t.lines v x ≡ line → is_dirty (line_after_squashing m line) ≡ true → Stood t v x a m (task_in (line_after_squashing m line))
stood_word t m v x a ne None e dirty = absurd (true≢false (sym dirty))
stood_word t m v x a ne (Some l) e dirty = go (not l.commit && leb m l.task) dirty
  where
    go : (z : Bool) → is_dirty (cond z None (Some l)) ≡ true → Stood t v x a m (task_in (cond z None (Some l)))
    go true d = absurd (true≢false (sym d))
    go false d = record { line = l; there = e; dirty = d; number = refl; active = λ same. absurd (ne same) }

stood_unit : (t : LineTable) (m k v x a : ℕ) → (line : Option Line) → t.lines v x ≡ line → is_dirty (line_after_squashing m (line_after_marking k (line_after_purging line))) ≡ true → Stood t v x a m (task_in (line_after_squashing m (line_after_marking k (line_after_purging line))))
stood_unit t m k v x a None e dirty = absurd (true≢false (sym dirty))
stood_unit t m k v x a (Some l) e dirty = go (l.commit && l.store) refl dirty
  where
    clear : (c s : Bool) → (c && s) ≡ false → s ≡ true → c ≡ false
    clear true s e f = absurd (true≢false (sym f ∙ e))
    clear false s e f = refl

    low : (c z : Bool) → (not c && z) ≡ false → c ≡ false → z ≡ false
    low true z e f = absurd (true≢false f)
    low false z e f = e

    last : (z : Bool) → (not l.commit && leb m l.task) ≡ z → (l.commit && l.store) ≡ false → is_dirty (cond z None (Some (record l { stale = l.stale || (l.commit || ltb l.task k) }))) ≡ true → Stood t v x a m (task_in (cond z None (Some (record l { stale = l.stale || (l.commit || ltb l.task k) }))))
    last true is c d = absurd (true≢false (sym d))
    last false is c d =
        let free = clear l.commit l.store c d in
        record { line = l; there = e; dirty = d; number = refl; active = λ same. (free, leb-false m l.task (low l.commit (leb m l.task) is free)) }

    go : (y : Bool) → (l.commit && l.store) ≡ y → is_dirty (line_after_squashing m (line_after_marking k (cond y None (Some l)))) ≡ true → Stood t v x a m (task_in (line_after_squashing m (line_after_marking k (cond y None (Some l)))))
    go true is d = absurd (true≢false (sym d))
    go false is d = last (not l.commit && leb m l.task) refl is d

first : (i j x y z : Bool) → i ≡ true → cond i x (cond j y z) ≡ x
first i j x y z e = rw e

second : (i j x y z : Bool) → i ≡ false → j ≡ true → cond i x (cond j y z) ≡ y
second i j x y z e f = rw (e, f)

third : (i j x y z : Bool) → i ≡ false → j ≡ false → cond i x (cond j y z) ≡ z
third i j x y z e f = rw (e, f)

by_store : (k l : Line) → k.store ≡ true → l.store ≡ true → ((k.store && l.store) && ltb k.task l.task) ≡ ltb k.task l.task
by_store k l e f = rw (e, f)

pub where_both : (x y m n : Bool) → (x ≡ true → y ≡ true → m ≡ n) → ((x && y) && m) ≡ ((x && y) && n)
where_both true true m n f = f refl refl
where_both true false m n f = refl
where_both false y m n f = refl

module _ (b : BusState) (t : LineTable) (p a w : ℕ) (agrees : Agrees b t) (within : p < length t.units) (reaches : p < survivors t p a) (room : survivors t p a ≤ length t.units) where
  abbrev n : ℕ
  n = survivors t p a

  abbrev u : ℕ
  u = get_or b.units p 0

  unit : u ≡ unit_at t p
  unit = unit_is b t agrees p

  -- an active line of a unit is of a task below the place just where the unit is
  below_is : (v x : ℕ) (l : Line) → t.lines v x ≡ Some l → l.commit ≡ false → is_below b p v ≡ ltb l.task (t.commits + p)
  below_is v x l e clear =
      let k = (agrees.sound.sound_lines v x l e).active clear in
      elim (cases_Bool (ltb k.0 p)) [
        | inl low ↦
            let h = ltb-true k.0 p low in
            any_found p (λ q. get_or b.units q 0 == v) k.0 h (eq-eqb (get_or b.units k.0 0) v (unit_is b t agrees k.0 ∙ k.1))
            ∙ sym (lt-ltb l.task (t.commits + p) (omega (arith, k.2.task_is, h)))
        | inr high ↦
            let h = ltb-false k.0 p high in
            any_none p (λ q. get_or b.units q 0 == v) (λ q i. ne_eqb (get_or b.units q 0) v (λ z.
            let same : q ≡ k.0 = agrees.sound.distinct_units q k.0 (omega (arith, i, within)) k.2.within (sym (unit_is b t agrees q) ∙ z ∙ sym k.1) in
            absurd (omega (arith, same, i, h))))
            ∙ sym (le-ltb l.task (t.commits + p) (omega (arith, k.2.task_is, h)))
      ]

  -- an active line of a surviving unit is of a task above the place just where the unit is
  above_is : (v x : ℕ) (l : Line) → t.lines v x ≡ Some l → l.commit ≡ false → l.task < t.commits + n → is_above b n p v ≡ ltb (t.commits + p) l.task
  above_is v x l e clear stays =
      let k = (agrees.sound.sound_lines v x l e).active clear in
      let inside : k.0 < n = omega (arith, k.2.task_is, stays) in
      elim (cases_Bool (ltb p k.0)) [
        | inl high ↦
            let h = ltb-true p k.0 high in
            any_found n (λ q. ltb p q && (get_or b.units q 0 == v)) k.0 inside (rw (high, eq-eqb (get_or b.units k.0 0) v (unit_is b t agrees k.0 ∙ k.1)))
            ∙ sym (lt-ltb (t.commits + p) l.task (omega (arith, k.2.task_is, h)))
        | inr low ↦
            let h = ltb-false p k.0 low in
            any_none n (λ q. ltb p q && (get_or b.units q 0 == v)) (λ q i. elim (cases_Bool (ltb p q)) [
              | inr no_more ↦ rw no_more
              | inl more ↦ rw (
                more,
                ne_eqb (get_or b.units q 0) v (λ z.
                    let same : q ≡ k.0 = agrees.sound.distinct_units q k.0 (omega (arith, i, room)) k.2.within (sym (unit_is b t agrees q) ∙ z ∙ sym k.1) in
                    absurd (omega (arith, same, ltb-true p q more, h))),
              )
            ])
            ∙ sym (le-ltb (t.commits + p) l.task (omega (arith, k.2.task_is, h)))
      ]

  -- ---- the lines

  overtaken_is : is_overtaken_line b n p a ≡ is_overtaken t n p a
  overtaken_is = any_same n _ _ (λ q h. ap (λ o. ltb p q && is_some o) (version_seen b t agrees q a))

  written_is : Some (written_bus_line b n p a w) ≡ without_number (line_after_squashing (t.commits + n) (Some (written_line t p a w)))
  written_is =
      let stays : leb (t.commits + n) (t.commits + p) ≡ false = lt-leb (t.commits + n) (t.commits + p) (omega (arith, reaches)) in
      let load = exposed_seen b t agrees p a in
      rw stays (λ i. Some (record { value = w; store = true; load = load i; commit = false; stale = overtaken_is i }))

  -- another unit's line of the word
  other_is : (v : ℕ) → marked_line (is_below b p v) (purged_line (line_after_cut b n v a)) ≡ without_number (line_after_squashing (t.commits + n) (line_after_marking (t.commits + p) (line_after_purging (t.lines v a))))
  other_is v = ap (λ x. marked_line (is_below b p v) (purged_line x)) (cut_line b t n agrees agrees.sound v a) ∙ go (t.lines v a) refl
    where
      settled_case : (l : Line) (x y : Bool) → l.commit ≡ true → l.store ≡ y → marked_line x (purged_line (without_number (line_after_squashing (t.commits + n) (Some l)))) ≡ without_number (line_after_squashing (t.commits + n) (line_after_marking (t.commits + p) (line_after_purging (Some l))))
      settled_case l x true c s = rw (c, s)
      settled_case l x false c s = rw (c, s)

      go : (line : Option Line) → t.lines v a ≡ line → marked_line (is_below b p v) (purged_line (without_number (line_after_squashing (t.commits + n) line))) ≡ without_number (line_after_squashing (t.commits + n) (line_after_marking (t.commits + p) (line_after_purging line)))
      go None e = refl
      go (Some l) e = elim (cases_Bool l.commit) [
        | inl set ↦ settled_case l (is_below b p v) l.store set refl
        | inr clear ↦ ap (λ x. marked_line x (purged_line (without_number (line_after_squashing (t.commits + n) (Some l))))) (below_is v a l e clear) ∙ clear_case l clear
      ]
        where
          abbreviated : Line → Type 0
          abbreviated k = marked_line (ltb k.task (t.commits + p)) (purged_line (without_number (line_after_squashing (t.commits + n) (Some k)))) ≡ without_number (line_after_squashing (t.commits + n) (line_after_marking (t.commits + p) (line_after_purging (Some k))))

          parts : (k : Line) (z : Bool) → leb (t.commits + n) k.task ≡ z → abbreviated (record k { commit = false })
          parts k true e = rw e
          parts k false e = rw e

          clear_case : (k : Line) → k.commit ≡ false → abbreviated k
          clear_case k c = subst abbreviated (sym (λ i. record k { commit = c i })) (parts k (leb (t.commits + n) k.task) refl)

  pub write_lines_agree : (v x : ℕ) → line_after_write b n p a w v x ≡ without_number ((numbered_write t p a w).lines v x)
  write_lines_agree v x = elim (cases_eq x a) [
    | inr ne ↦ rw (ne_eqb x a ne) (cut_line b t n agrees agrees.sound v x)
    | inl e ↦ elim (cases_eq v u) [
      | inl same ↦ rw (eq-eqb x a e, eq-eqb v u same, eq-eqb v (unit_at t p) (same ∙ unit)) written_is
      | inr other ↦ rw (e, eq-eqb a a refl, ne_eqb v u other, ne_eqb v (unit_at t p) (λ z. other (z ∙ sym unit))) (other_is v)
    ]
  ]

  -- ---- the order

  abbrev after : ℕ → ℕ → Option Line
  after = (numbered_write t p a w).lines

  here_line : (v x : ℕ) → x ≡ a → v ≡ u → after v x ≡ Some (written_line t p a w)
  here_line v x e same = rw (eq-eqb x a e, eq-eqb v (unit_at t p) (same ∙ unit), lt-leb (t.commits + n) (t.commits + p) (omega (arith, reaches)))

  word_line : (v x : ℕ) → x ≢ a → after v x ≡ line_after_squashing (t.commits + n) (t.lines v x)
  word_line v x ne = rw (ne_eqb x a ne)

  unit_line : (v x : ℕ) → x ≡ a → v ≢ u → after v x ≡ line_after_squashing (t.commits + n) (line_after_marking (t.commits + p) (line_after_purging (t.lines v x)))
  unit_line v x e ne = rw (eq-eqb x a e, ne_eqb v (unit_at t p) (λ z. ne (z ∙ sym unit)))

  -- a dirty line that was not just written stood there with its number, and of the written word only active ones stand
  stood : (v x : ℕ) → (x ≢ a) ⊎ (v ≢ u) → is_dirty (after v x) ≡ true → Stood t v x a (t.commits + n) (task_in (after v x))
  stood v x other dirty = elim (cases_eq x a) [
    | inr ne ↦ rw (word_line v x ne) (stood_word t (t.commits + n) v x a ne (t.lines v x) refl (sym (ap is_dirty (word_line v x ne)) ∙ dirty))
    | inl e ↦ elim other [
      | inl ne ↦ absurd (ne e)
      | inr ne ↦ rw (unit_line v x e ne) (stood_unit t (t.commits + n) (t.commits + p) v x a (t.lines v x) refl (sym (ap is_dirty (unit_line v x e ne)) ∙ dirty))
    ]
  ]

  not_above_itself : is_above b n p u ≡ false
  not_above_itself = any_none n (λ q. ltb p q && (get_or b.units q 0 == u)) (λ q i. elim (cases_Bool (ltb p q)) [
    | inr low ↦ rw low
    | inl high ↦ rw (
      high,
      ne_eqb (get_or b.units q 0) u (λ z.
          let same : q ≡ p = agrees.sound.distinct_units q p (omega (arith, i, room)) within (sym (unit_is b t agrees q) ∙ z ∙ unit) in
          absurd (omega (arith, same, ltb-true p q high))),
    )
  ])

  compared : (x y z : ℕ) → is_dirty (after y x) ≡ true → is_dirty (after z x) ≡ true
      → cond ((x == a) && (y == u)) (is_above b n p z) (cond ((x == a) && (z == u)) (is_below b p y) (b.is_older x y z)) ≡ ltb (task_in (after y x)) (task_in (after z x))
  compared x y z dy dz = elim (cases_eq x a) [
    | inr ne ↦ third ((x == a) && (y == u)) ((x == a) && (z == u)) (is_above b n p z) (is_below b p y) (b.is_older x y z) (rw (ne_eqb x a ne)) (rw (ne_eqb x a ne)) ∙ older x y z (stood y x (inl ne) dy) (stood z x (inl ne) dz)
    | inl e ↦ elim (cases_eq y u) [
      | inl same ↦ first ((x == a) && (y == u)) ((x == a) && (z == u)) (is_above b n p z) (is_below b p y) (b.is_older x y z) (rw (eq-eqb x a e, eq-eqb y u same)) ∙ elim (cases_eq z u) [
        | inl twin ↦ ap (is_above b n p) twin ∙ not_above_itself ∙ sym (ap₂ (λ i j. ltb (task_in i) (task_in j)) (here_line y x e same) (here_line z x e twin) ∙ le-ltb (t.commits + p) (t.commits + p) (omega arith))
        | inr other ↦
            let k = stood z x (inr other) dz in
            above_is z x k.line k.there (k.active e).0 (k.active e).1 ∙ sym (ap₂ ltb (ap task_in (here_line y x e same)) k.number)
      ]
      | inr other ↦ elim (cases_eq z u) [
        | inl twin ↦
            let k = stood y x (inr other) dy in
            second ((x == a) && (y == u)) ((x == a) && (z == u)) (is_above b n p z) (is_below b p y) (b.is_older x y z) (rw (eq-eqb x a e, ne_eqb y u other)) (rw (eq-eqb x a e, eq-eqb z u twin)) ∙ below_is y x k.line k.there (k.active e).0 ∙ sym (ap₂ ltb k.number (ap task_in (here_line z x e twin)))
        | inr far ↦ third ((x == a) && (y == u)) ((x == a) && (z == u)) (is_above b n p z) (is_below b p y) (b.is_older x y z) (rw (eq-eqb x a e, ne_eqb y u other)) (rw (eq-eqb x a e, ne_eqb z u far)) ∙ older x y z (stood y x (inr other) dy) (stood z x (inr far) dz)
      ]
    ]
  ]
    where
      older : (x y z : ℕ) → Stood t y x a (t.commits + n) (task_in (after y x)) → Stood t z x a (t.commits + n) (task_in (after z x)) → b.is_older x y z ≡ ltb (task_in (after y x)) (task_in (after z x))
      older x y z k l = agrees.order x y z ∙ ap₂ (λ i j. (is_dirty i && is_dirty j) && ltb (task_in i) (task_in j)) k.there l.there ∙ by_store k.line l.line k.dirty l.dirty ∙ sym (ap₂ ltb k.number l.number)

  pub write_order_agrees : (x y z : ℕ) → order_after_write b n p a w x y z ≡ is_lower (numbered_write t p a w) x y z
  write_order_agrees x y z =
      ap₂ (λ i j. (i && j) && cond ((x == a) && (y == u)) (is_above b n p z) (cond ((x == a) && (z == u)) (is_below b p y) (b.is_older x y z))) (dirty_after y) (dirty_after z)
      ∙ where_both (is_dirty (after y x)) (is_dirty (after z x)) _ _ (compared x y z)
    where
      dirty_after : (v : ℕ) → is_dirty_line (line_after_write b n p a w v x) ≡ is_dirty (after v x)
      dirty_after v = ap is_dirty_line (write_lines_agree v x) ∙ dirty_line_is (after v x)

-- the write without numbers keeps the agreement
numbered_write_agrees : (b : BusState) (t : LineTable) (p a w : ℕ) → Agrees b t → p < length t.units → a < t.words → Agrees (bus_write_leaving b (survivors t p a) p a w) (numbered_write t p a w)
numbered_write_agrees b t p a w agrees within known =
    let guard = survivors_are (versioned_map t) p a (omega (arith, within, rows_count t)) in
    let room : survivors t p a ≤ length t.units = omega (arith, guard.within, rows_count t) in
    record {
      sound = write_sound t p a w agrees.sound within known;
      caches = agrees.caches;
      sets = agrees.sets;
      ways = agrees.ways;
      words = agrees.words;
      lines = write_lines_agree b t p a w agrees within guard.reaches room;
      order = write_order_agrees b t p a w agrees within guard.reaches room;
      spill = λ x. ap₂ (λ y z. cond (x == a) (cond (p == 0) None y) z) (agrees.spill a) (agrees.spill x);
      backing = λ x. ap₂ (λ y z. cond (x == a) y z) (committed_seen b t a agrees) (agrees.backing x);
      commits = agrees.commits;
      units = ap (take (survivors t p a)) agrees.units;
    }

pub write_agrees : (b : BusState) (t : LineTable) (p a w : ℕ) → Agrees b t → p < length t.units → a < t.words → Agrees (bus_write b p a w) (write t p a w)
write_agrees b t p a w agrees within known =
    subst (Agrees (bus_write b p a w)) (sym (write_is t p a w agrees.sound within))
    (subst (λ m. Agrees (bus_write_leaving b (map.survivors m p a) p a w) (numbered_write t p a w)) (sym (map_seen b t agrees)) (numbered_write_agrees b t p a w agrees within known))
