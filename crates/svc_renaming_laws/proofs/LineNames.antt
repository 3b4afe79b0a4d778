-- The line table of renamed units: what it holds, and that it is sound.
use Rattle.std.proofs.Common.{◌≡◌, ◌⊎◌, refl, sym, ap, ap₂, ◌∙◌, subst, ℕ, suc, ◌+◌, ◌<◌, ◌≤◌, Some, None, true, false, Bool, cond, not, ◌&&◌, ◌||◌, leb, ltb, Option, List, map, length, get_or, inl, inr, arith, true≢false, is_some, option_map}
use Rattle.std.specs.Bool.{◌==◌}
use Rattle.std.specs.Option.{option_or}
use Rattle.std.proofs.lemmas.Bool.{cases_eq, and_parts, leb-true}
use Rattle.std.proofs.lemmas.List.{length-map}
use Rattle.svc_bus_laws.specs.Search.{greatest, any_below, tabulate}
use Rattle.svc_bus_laws.specs.Versioned.{view}
use Rattle.svc_bus_laws.specs.LineTable.{Line, LineTable, is_active, version_in, exposed_in, is_committed_dirty, is_reusable, task_in, unit_at, line_at, is_newest, newest, value_of, committed_value, own_version, row_of, versioned_map, is_cut}
use Rattle.svc_bus_laws.specs.Supplier.{Supplier, Hit, Reuse, Version, Spill, by_committed, by_version, supplier}
use Rattle.svc_bus_laws.specs.Steps.{is_overtaken}
use Rattle.svc_bus_laws.specs.Sound.{IsSoundLine, IsSound}
use Rattle.svc_bus_laws.proofs.Searches.{all_true, any_same, greatest_same, greatest_cases}
use Rattle.svc_renaming_laws.specs.Renamings.{Renaming, IsRenaming}
use Rattle.svc_renaming_laws.specs.RenamedLines.{renamed_lines, renamed_supplier}
use Rattle.svc_renaming_laws.proofs.LeastNames.{least_renamed}
use Rattle.svc_renaming_laws.proofs.Names.{tabulate_same, same_name, named_at, back_at, all_renamed}

-- ---- of two newest lines

dirty_line : (o : Option Line) → is_committed_dirty o ≡ true → (l : Line) × (o ≡ Some l) × (l.commit ≡ true)
dirty_line None e = absurd (true≢false (sym e))
dirty_line (Some l) e = (l, refl, (and_parts l.commit l.store e).0)

-- a test that some newest line puts to another one
told : (x y : Bool) → x ≡ true → (not x || y) ≡ true → y ≡ true
told true y e f = f
told false y e f = absurd (true≢false (sym e))

-- in a sound table a word has at most one newest committed dirty line
one_newest : (t : LineTable) → IsSound t → (a u v : ℕ) → u < t.caches → v < t.caches → is_newest t a u ≡ true → is_newest t a v ≡ true → u ≡ v
one_newest t sound a u v h k e f =
    let first = and_parts (is_committed_dirty (t.lines u a)) _ e in
    let second = and_parts (is_committed_dirty (t.lines v a)) _ f in
    let mine = dirty_line (t.lines u a) first.0 in
    let yours = dirty_line (t.lines v a) second.0 in
    let below : task_in (t.lines v a) ≤ task_in (t.lines u a) = leb-true _ _ (told (is_committed_dirty (t.lines v a)) _ second.0 (all_true t.caches _ first.1 v k)) in
    let above : task_in (t.lines u a) ≤ task_in (t.lines v a) = leb-true _ _ (told (is_committed_dirty (t.lines u a)) _ first.0 (all_true t.caches _ second.1 u h)) in
    let same : task_in (t.lines u a) ≡ task_in (t.lines v a) = omega (arith, below, above) in
    sound.distinct_versions u v a mine.0 yours.0 mine.1 yours.1 mine.2 yours.2 (sym (ap task_in mine.1) ∙ same ∙ ap task_in yours.1)

module _ (r : Renaming) (t : LineTable) (is : IsRenaming t.caches r) where
  abbrev s : LineTable
  s = renamed_lines r t

  pub units_count : length s.units ≡ length t.units
  units_count = length-map t.units r.there

  pub inside : (p : ℕ) → p < length s.units → p < length t.units
  inside p h = let e = units_count in omega (arith, h, e)

  pub outside : (p : ℕ) → p < length t.units → p < length s.units
  outside p h = let e = units_count in omega (arith, h, e)

  -- each task's line is the same
  pub same_line : (p a : ℕ) → p < length t.units → line_at s p a ≡ line_at t p a
  same_line p a h = ap (λ u. t.lines u a) (back_at r t.caches is t.units p h)

  pub same_overtaken : (n p a : ℕ) → n ≤ length t.units → is_overtaken s n p a ≡ is_overtaken t n p a
  same_overtaken n p a within = any_same n _ _ (λ q h. ap (λ l. ltb p q && is_some (version_in l)) (same_line q a (omega (arith, h, within))))

  -- a unit's place among those that are cut
  pub same_cut : (n v : ℕ) → is_cut s.units n v ≡ is_cut t.units n (r.back v)
  same_cut n v = ap (λ k. any_below k (λ q. leb n q && (get_or s.units q 0 == v))) units_count ∙ any_same (length t.units) _ _ (λ q h. ap (λ b. leb n q && b) (one q h))
    where
      one : (q : ℕ) → q < length t.units → (get_or s.units q 0 == v) ≡ (get_or t.units q 0 == r.back v)
      one q h = turn (get_or s.units q 0) v ∙ Rattle.svc_renaming_laws.proofs.Names.is_at r t.caches is t.units q v h ∙ turn (r.back v) (get_or t.units q 0)
        where
          turn : (x y : ℕ) → (x == y) ≡ (y == x)
          turn x y = elim (cases_eq x y) [
            | inl e ↦ Rattle.std.proofs.Common.eq-eqb x y e ∙ sym (Rattle.std.proofs.Common.eq-eqb y x (sym e))
            | inr ne ↦ Rattle.std.proofs.Common.ne_eqb x y ne ∙ sym (Rattle.std.proofs.Common.ne_eqb y x (λ e. ne (sym e)))
          ]

  -- the newest line
  same_test : (a u : ℕ) → is_newest s a u ≡ is_newest t a (r.back u)
  same_test a u = ap (λ b. is_committed_dirty (t.lines (r.back u) a) && b)
      (all_renamed r t.caches is (λ v. not (is_committed_dirty (t.lines v a)) || leb (task_in (t.lines v a)) (task_in (t.lines (r.back u) a))))

  module _ (sound : IsSound t) where
    pub same_newest : (a : ℕ) → newest s a ≡ option_map r.there (newest t a)
    same_newest a = least_renamed r t.caches is (is_newest s a) (is_newest t a) (same_test a) (one_newest t sound a)

    pub same_committed : (a : ℕ) → committed_value s a ≡ committed_value t a
    same_committed a = ap (value_of s a) (same_newest a) ∙ of (newest t a)
      where
        of : (o : Option ℕ) → value_of s a (option_map r.there o) ≡ value_of t a o
        of None = refl
        of (Some u) = ap (λ v. Rattle.svc_bus_laws.specs.LineTable.value_in (t.lines v a)) (is.returns u)

    pub same_own : (p a : ℕ) → p < length t.units → own_version s p a ≡ own_version t p a
    same_own p a h = ap (λ l. option_or (version_in l) (cond (p == 0) (t.spill a) None)) (same_line p a h)

    same_row : (p : ℕ) → p < length t.units → row_of s p ≡ row_of t p
    same_row p h = λ i. record { versions = λ a. same_own p a h i; exposed = λ a. not (p == 0) && exposed_in (same_line p a h i) }

    pub same_map : versioned_map s ≡ versioned_map t
    same_map =
        let rows : tabulate (length s.units) (row_of s) ≡ tabulate (length t.units) (row_of t) =
        ap (λ n. tabulate n (row_of s)) units_count ∙ tabulate_same (length t.units) (row_of s) (row_of t) same_row in
        λ i. record { commits = t.commits; committed = λ a. same_committed a i; rows = rows i }

    pub same_supplier : (p a : ℕ) → p < length t.units → supplier s p a ≡ renamed_supplier r (supplier t p a)
    same_supplier p a h =
        (λ i. cond (is_active (same_line p a h i)) Hit (cond (is_reusable (same_line p a h i)) Reuse (found i)))
        ∙ sym (out (is_active (line_at t p a)) Hit _ ∙ ap (λ x. cond (is_active (line_at t p a)) Hit x) (out (is_reusable (line_at t p a)) Reuse _))
      where
        out : (b : Bool) (x y : Supplier) → renamed_supplier r (cond b x y) ≡ cond b (renamed_supplier r x) (renamed_supplier r y)
        out true x y = refl
        out false x y = refl

        at_committed : (o : Option ℕ) → by_committed (option_map r.there o) ≡ renamed_supplier r (by_committed o)
        at_committed None = refl
        at_committed (Some u) = refl

        test : (q : ℕ) → q < p → is_some (version_in (line_at s q a)) ≡ is_some (version_in (line_at t q a))
        test q k = ap (λ l. is_some (version_in l)) (same_line q a (omega (arith, h, k)))

        by : by_version s a (greatest p (λ q. is_some (version_in (line_at t q a)))) ≡ renamed_supplier r (by_version t a (greatest p (λ q. is_some (version_in (line_at t q a)))))
        by = elim (greatest_cases p (λ q. is_some (version_in (line_at t q a)))) [
          | inl (none, never) ↦ rw none (ap (λ x. cond (is_some (t.spill a)) Spill x) (ap by_committed (same_newest a) ∙ at_committed (newest t a)) ∙ sym (out (is_some (t.spill a)) Spill (by_committed (newest t a))))
          | inr (q, at, below, passes, later) ↦ rw at (ap Version (named_at r t.caches is t.units q (omega (arith, h, below))))
        ]

        found : by_version s a (greatest p (λ q. is_some (version_in (line_at s q a)))) ≡ renamed_supplier r (by_version t a (greatest p (λ q. is_some (version_in (line_at t q a)))))
        found = ap (by_version s a) (greatest_same p _ _ test) ∙ by

    -- ---- it is sound
    sound_line : (u a : ℕ) (l : Line) → IsSoundLine t (r.back u) a l → IsSoundLine s u a l
    sound_line u a l line = record {
      cached = subst (λ v. v < t.caches) (is.reaches u) (is.known (r.back u) line.cached);
      in_memory = line.in_memory;
      active = λ e.
          let w = line.active e in (
            w.0,
            named_at r t.caches is t.units w.0 w.2.within ∙ ap r.there w.1 ∙ is.reaches u,
            record {
              within = outside w.0 w.2.within;
              task_is = w.2.task_is;
              current = w.2.current ∙ sym (ap (λ m. view m w.0 a) same_map);
              loaded = w.2.loaded;
            },
          );
      committed = λ e. let w = line.committed e in record { older = w.older; newest = λ f g. w.newest f g ∙ sym (same_committed a) };
      unmarked = λ e q h k. same_own q a (inside q h) ∙ line.unmarked e q (inside q h) k;
    }

    pub renamed_sound : IsSound s
    renamed_sound = record {
      distinct_units = λ p q h k e. sound.distinct_units p q (inside p h) (inside q k)
          (sym (back_at r t.caches is t.units p (inside p h)) ∙ ap r.back e ∙ back_at r t.caches is t.units q (inside q k));
      known_units = λ p h. subst (λ u. u < t.caches) (sym (named_at r t.caches is t.units p (inside p h))) (is.known (unit_at t p) (sound.known_units p (inside p h)));
      sound_lines = λ u a l e. sound_line u a l (sound.sound_lines (r.back u) a l e);
      distinct_versions = λ u v a k l e f g h i. sym (is.reaches u) ∙ ap r.there (sound.distinct_versions (r.back u) (r.back v) a k l e f g h i) ∙ is.reaches v;
      sound_spills = λ a e.
          let w = sound.sound_spills a e in
          record { in_memory = w.in_memory; has_head = outside 0 w.has_head; replaced = ap version_in (same_line 0 a w.has_head) ∙ w.replaced; purged = λ u. w.purged (r.back u) };
    }
