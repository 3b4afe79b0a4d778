-- The order of a word's dirty lines is a strict total order: committed ones first, then active ones in task order.
use Rattle.std.proofs.Common.{◌≡◌, ◌⊎◌, ◌≢◌, refl, sym, ap, ap₂, ◌∙◌, ℕ, ◌+◌, ◌<◌, ◌≤◌, Some, None, true, false, Bool, cond, not, ◌&&◌, Option, length, get_or, inl, inr, arith, true≢false, is_some, ltb, lt-ltb, le-ltb, ltb-true}
use Rattle.std.proofs.lemmas.Bool.{cases_Bool, ltb-false}
use Rattle.svc_bus_laws.specs.LineTable.{Line, LineTable, task_in, unit_at}
use Rattle.svc_bus_laws.specs.Sound.{IsSoundLine}
use Rattle.svc_bus_laws.specs.BusLine.{BusLine, is_dirty_line, is_committed_dirty_line, version_of_line}
use Rattle.svc_bus_laws.specs.BusState.{BusState, Agrees, without_number, is_dirty}
use Rattle.svc_bus_laws.specs.BusView.{bus_line_at}
use Rattle.svc_bus_laws.proofs.SeenLaws.{dirty_line_is, unit_is}

both : (x y : Bool) → (x && y) ≡ true → (x ≡ true) × (y ≡ true)
both true y e = (refl, e)
both false y e = absurd (true≢false (sym e))

-- a dirty line of a table
record IsDirtyLine (t : LineTable) (u a : ℕ) : Type 0 where
  pub line : Line
  pub there : t.lines u a ≡ Some line
  pub dirty : line.store ≡ true

dirty_parts : (line : Option Line) → is_dirty line ≡ true → (l : Line) × (line ≡ Some l) × (l.store ≡ true)
dirty_parts None e = absurd (true≢false (sym e))
dirty_parts (Some l) e = (l, refl, e)

module _ (b : BusState) (t : LineTable) (a : ℕ) (agrees : Agrees b t) where
  dirty_line : (u : ℕ) → is_dirty_line (b.lines u a) ≡ true → IsDirtyLine t u a
  dirty_line u e = let w = dirty_parts (t.lines u a) (sym (ap is_dirty_line (agrees.lines u a) ∙ dirty_line_is (t.lines u a)) ∙ e) in record { line = w.0; there = w.1; dirty = w.2 }

  -- the order of two of them is that of their numbers
  by_task : (u v : ℕ) (k : IsDirtyLine t u a) (l : IsDirtyLine t v a) → b.is_older a u v ≡ ltb k.line.task l.line.task
  by_task u v k l =
      agrees.order a u v
      ∙ ap₂ (λ i j. (is_dirty i && is_dirty j) && ltb (task_in i) (task_in j)) k.there l.there
      ∙ stores k.line.store l.line.store k.dirty l.dirty
    where
      stores : (x y : Bool) → x ≡ true → y ≡ true → ((x && y) && ltb k.line.task l.line.task) ≡ ltb k.line.task l.line.task
      stores x y e f = rw (e, f)

  ordered : (u v : ℕ) → b.is_older a u v ≡ true → (is_dirty_line (b.lines u a) ≡ true) × (is_dirty_line (b.lines v a) ≡ true)
  ordered u v e =
      let w = both (is_dirty (t.lines u a) && is_dirty (t.lines v a)) (ltb (task_in (t.lines u a)) (task_in (t.lines v a))) (sym (agrees.order a u v) ∙ e) in
      let d = both (is_dirty (t.lines u a)) (is_dirty (t.lines v a)) w.0 in
      (seen u ∙ d.0, seen v ∙ d.1)
    where
      seen : (u : ℕ) → is_dirty_line (b.lines u a) ≡ is_dirty (t.lines u a)
      seen u = ap is_dirty_line (agrees.lines u a) ∙ dirty_line_is (t.lines u a)

  sound_line : (u : ℕ) (k : IsDirtyLine t u a) → IsSoundLine t u a k.line
  sound_line u k = agrees.sound.sound_lines u a k.line k.there

  -- lines of one number are in one cache
  one_number : (u v : ℕ) (k : IsDirtyLine t u a) (l : IsDirtyLine t v a) → k.line.task ≡ l.line.task → u ≡ v
  one_number u v k l same = elim (cases_Bool k.line.commit) [
    | inl set ↦ elim (cases_Bool l.line.commit) [
      | inl also ↦ agrees.sound.distinct_versions u v a k.line l.line k.there l.there set also same
      | inr clear ↦ let q = (sound_line v l).active clear in absurd (omega (arith, ((sound_line u k).committed set).older, q.2.task_is, same))
    ]
    | inr clear ↦ let p = (sound_line u k).active clear in elim (cases_Bool l.line.commit) [
      | inl set ↦ absurd (omega (arith, ((sound_line v l).committed set).older, p.2.task_is, same))
      | inr also ↦
          let q = (sound_line v l).active also in
          let place : p.0 ≡ q.0 = omega (arith, p.2.task_is, q.2.task_is, same) in
          sym p.1 ∙ ap (unit_at t) place ∙ q.1
    ]
  ]

  committed_bit : (u : ℕ) (k : IsDirtyLine t u a) → is_committed_dirty_line (b.lines u a) ≡ true → k.line.commit ≡ true
  committed_bit u k e = (both k.line.commit k.line.store (sym (ap is_committed_dirty_line (agrees.lines u a ∙ ap without_number k.there)) ∙ e)).0

  active_bit : (u : ℕ) (k : IsDirtyLine t u a) → is_some (version_of_line (b.lines u a)) ≡ true → k.line.commit ≡ false
  active_bit u k e = go k.line.commit k.line.store (sym (ap (λ line. is_some (version_of_line line)) (agrees.lines u a ∙ ap without_number k.there)) ∙ e)
    where
      go : (c s : Bool) → is_some (cond (not c && s) (Some k.line.value) None) ≡ true → c ≡ false
      go true s e = absurd (true≢false (sym e))
      go false s e = refl

  dirty_committed : (line : Option BusLine) → is_committed_dirty_line line ≡ true → is_dirty_line line ≡ true
  dirty_committed None e = e
  dirty_committed (Some l) e = (both l.commit l.store e).1

  dirty_version : (line : Option BusLine) → is_some (version_of_line line) ≡ true → is_dirty_line line ≡ true
  dirty_version None e = e
  dirty_version (Some l) e = go l.commit l.store e
    where
      go : (c s : Bool) → is_some (cond (not c && s) (Some l.value) None) ≡ true → s ≡ true
      go true s e = absurd (true≢false (sym e))
      go false s e = chosen s e
        where
          chosen : (s : Bool) → is_some (cond s (Some l.value) None) ≡ true → s ≡ true
          chosen true e = refl
          chosen false e = absurd (true≢false (sym e))

  strict : (u v : ℕ) → b.is_older a u v ≡ true → b.is_older a v u ≡ false
  strict u v e =
      let d = ordered u v e in
      let k = dirty_line u d.0 in
      let l = dirty_line v d.1 in
      by_task v u l k ∙ le-ltb l.line.task k.line.task (omega (arith, ltb-true k.line.task l.line.task (sym (by_task u v k l) ∙ e)))

  transitive : (u v w : ℕ) → b.is_older a u v ≡ true → b.is_older a v w ≡ true → b.is_older a u w ≡ true
  transitive u v w e f =
      let d = ordered u v e in
      let k = dirty_line u d.0 in
      let l = dirty_line v d.1 in
      let m = dirty_line w (ordered v w f).1 in
      by_task u w k m ∙ lt-ltb k.line.task m.line.task (omega (arith, ltb-true k.line.task l.line.task (sym (by_task u v k l) ∙ e), ltb-true l.line.task m.line.task (sym (by_task v w l m) ∙ f)))

  total : (u v : ℕ) → u ≢ v → is_dirty_line (b.lines u a) ≡ true → is_dirty_line (b.lines v a) ≡ true → (b.is_older a u v ≡ true) ⊎ (b.is_older a v u ≡ true)
  total u v ne e f =
      let k = dirty_line u e in
      let l = dirty_line v f in
      elim (cases_Bool (ltb k.line.task l.line.task)) [
        | inl less ↦ inl (by_task u v k l ∙ less)
        | inr more ↦ inr (by_task v u l k ∙ lt-ltb l.line.task k.line.task (smaller k.line.task l.line.task (λ z. ne (one_number u v k l z)) (ltb-false k.line.task l.line.task more)))
      ]
    where
      smaller : (x y : ℕ) → x ≢ y → y ≤ x → y < x
      smaller x y ne h = omega (arith, ne, h)

  committed_first : (u v : ℕ) → is_committed_dirty_line (b.lines u a) ≡ true → is_some (version_of_line (b.lines v a)) ≡ true → b.is_older a u v ≡ true
  committed_first u v e f =
      let k = dirty_line u (dirty_committed (b.lines u a) e) in
      let l = dirty_line v (dirty_version (b.lines v a) f) in
      let q = (sound_line v l).active (active_bit v l f) in
      by_task u v k l ∙ lt-ltb k.line.task l.line.task (omega (arith, ((sound_line u k).committed (committed_bit u k e)).older, q.2.task_is))

  task_order : (p q : ℕ) → p < length b.units → q < length b.units → is_some (version_of_line (bus_line_at b p a)) ≡ true → is_some (version_of_line (bus_line_at b q a)) ≡ true
      → b.is_older a (get_or b.units p 0) (get_or b.units q 0) ≡ ltb p q
  task_order p q h i e f =
      let k = dirty_line (get_or b.units p 0) (dirty_version (bus_line_at b p a) e) in
      let l = dirty_line (get_or b.units q 0) (dirty_version (bus_line_at b q a) f) in
      by_task _ _ k l ∙ ap₂ ltb (number p h k (active_bit _ k e)) (number q i l (active_bit _ l f)) ∙ shifted
    where
      number : (p : ℕ) → p < length b.units → (k : IsDirtyLine t (get_or b.units p 0) a) → k.line.commit ≡ false → k.line.task ≡ t.commits + p
      number p h k clear =
          let r = (sound_line (get_or b.units p 0) k).active clear in
          let place : r.0 ≡ p = agrees.sound.distinct_units r.0 p r.2.within (rw (← agrees.units) h) (r.1 ∙ unit_is b t agrees p) in
          r.2.task_is ∙ ap (λ n. t.commits + n) place

      shifted : ltb (t.commits + p) (t.commits + q) ≡ ltb p q
      shifted = elim (cases_Bool (ltb p q)) [
        | inl less ↦ lt-ltb (t.commits + p) (t.commits + q) (omega (arith, ltb-true p q less)) ∙ sym less
        | inr more ↦ le-ltb (t.commits + p) (t.commits + q) (omega (arith, ltb-false p q more)) ∙ sym more
      ]

-- ---- as laws

pub order_dirty : (b : BusState) (t : LineTable) (a u v : ℕ) → Agrees b t → b.is_older a u v ≡ true → (is_dirty_line (b.lines u a) ≡ true) × (is_dirty_line (b.lines v a) ≡ true)
order_dirty b t a u v agrees = ordered b t a agrees u v

pub order_strict : (b : BusState) (t : LineTable) (a u v : ℕ) → Agrees b t → b.is_older a u v ≡ true → b.is_older a v u ≡ false
order_strict b t a u v agrees = strict b t a agrees u v

pub order_transitive : (b : BusState) (t : LineTable) (a u v w : ℕ) → Agrees b t → b.is_older a u v ≡ true → b.is_older a v w ≡ true → b.is_older a u w ≡ true
order_transitive b t a u v w agrees = transitive b t a agrees u v w

pub order_total : (b : BusState) (t : LineTable) (a u v : ℕ) → Agrees b t → u ≢ v → is_dirty_line (b.lines u a) ≡ true → is_dirty_line (b.lines v a) ≡ true → (b.is_older a u v ≡ true) ⊎ (b.is_older a v u ≡ true)
order_total b t a u v agrees = total b t a agrees u v

pub order_committed : (b : BusState) (t : LineTable) (a u v : ℕ) → Agrees b t → is_committed_dirty_line (b.lines u a) ≡ true → is_some (version_of_line (b.lines v a)) ≡ true → b.is_older a u v ≡ true
order_committed b t a u v agrees = committed_first b t a agrees u v

pub order_tasks : (b : BusState) (t : LineTable) (a p q : ℕ) → Agrees b t → p < length b.units → q < length b.units
    → is_some (version_of_line (bus_line_at b p a)) ≡ true → is_some (version_of_line (bus_line_at b q a)) ≡ true
    → b.is_older a (get_or b.units p 0) (get_or b.units q 0) ≡ ltb p q
order_tasks b t a p q agrees = task_order b t a agrees p q
