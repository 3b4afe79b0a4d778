-- What callers see of a line, of the committed values, of the map and of the supplier is that of every table that agrees.
use Rattle.std.proofs.Common.{◌≡◌, refl, sym, ap, ap₂, ◌∙◌, ℕ, Some, None, true, false, Bool, cond, not, ◌&&◌, ◌||◌, List, Option, length, get_or, inl, inr, true≢false, is_some, leb, ltb, le-leb}
use Rattle.std.specs.Bool.{◌==◌}
use Rattle.std.specs.Option.{option_or}
use Rattle.std.proofs.lemmas.Bool.{cases_Bool, lt-leb, ltb-true, ltb-false}
use Rattle.svc_bus_laws.specs.Search.{least, greatest, all_below, tabulate}
use Rattle.svc_bus_laws.specs.LineTable.{Line, LineTable, is_active, is_reusable, version_in, exposed_in, is_committed_dirty, task_in, value_in, unit_at, line_at, is_newest, newest, value_of, committed_value, row_of, versioned_map}
use Rattle.svc_bus_laws.specs.Supplier.{Hit, Reuse, Version, Spill, supplier, by_version, by_committed}
use Rattle.svc_bus_laws.specs.Sound.{IsSound}
use Rattle.svc_bus_laws.specs.BusLine.{is_active_line, is_reusable_line, is_committed_dirty_line, is_dirty_line, is_exposed_line, value_of_line, version_of_line}
use Rattle.svc_bus_laws.specs.BusState.{BusState, Agrees, without_number, is_dirty, is_lower, state_of}
use Rattle.svc_bus_laws.specs.BusView.{bus_line_at, is_newest_line, bus_newest, value_of_unit, bus_committed, bus_row, bus_map, bus_view, bus_victim, bus_by_version, bus_supplier}
use Rattle.svc_bus_laws.specs.BusSteps.{bus_opened}
use Rattle.svc_bus_laws.specs.LineTable.{opening_table}
use Rattle.svc_bus_laws.specs.Versioned.{view, victim_answer}
use Rattle.svc_bus_laws.proofs.OpenedLaws.{opened_law}
use Rattle.svc_bus_laws.proofs.Searches.{least_same, all_same, greatest_same}

-- ---- one line

pub active_line_is : (line : Option Line) → is_active_line (without_number line) ≡ is_active line
active_line_is None = refl
active_line_is (Some l) = refl

pub reusable_line_is : (line : Option Line) → is_reusable_line (without_number line) ≡ is_reusable line
reusable_line_is None = refl
reusable_line_is (Some l) = refl

pub dirty_line_is : (line : Option Line) → is_dirty_line (without_number line) ≡ is_dirty line
dirty_line_is None = refl
dirty_line_is (Some l) = refl

pub version_line_is : (line : Option Line) → version_of_line (without_number line) ≡ version_in line
version_line_is None = refl
version_line_is (Some l) = refl

pub exposed_line_is : (line : Option Line) → is_exposed_line (without_number line) ≡ exposed_in line
exposed_line_is None = refl
exposed_line_is (Some l) = refl

pub committed_line_is : (line : Option Line) → is_committed_dirty_line (without_number line) ≡ is_committed_dirty line
committed_line_is None = refl
committed_line_is (Some l) = refl

pub value_line_is : (line : Option Line) → value_of_line (without_number line) ≡ value_in line
value_line_is None = refl
value_line_is (Some l) = refl

-- ---- numbers by the order

leb_is : (x y : ℕ) → leb x y ≡ not (ltb y x)
leb_is x y = elim (cases_Bool (ltb y x)) [
  | inl less ↦ rw (less, lt-leb x y (ltb-true y x less))
  | inr more ↦ rw (more, le-leb x y (ltb-false y x more))
]

committed_is_dirty : (line : Option Line) → is_committed_dirty line ≡ true → is_dirty line ≡ true
committed_is_dirty None e = e
committed_is_dirty (Some l) e = go l.commit l.store e
  where
    go : (c s : Bool) → (c && s) ≡ true → s ≡ true
    go true s e = e
    go false s e = absurd (true≢false (sym e))

-- the numbers of two committed dirty lines of a word are compared by the order
by_order : (t : LineTable) (a u v : ℕ) → is_committed_dirty (t.lines u a) ≡ true → is_committed_dirty (t.lines v a) ≡ true → leb (task_in (t.lines v a)) (task_in (t.lines u a)) ≡ not (is_lower t a u v)
by_order t a u v e f =
    leb_is (task_in (t.lines v a)) (task_in (t.lines u a))
    ∙ ap not (rw (committed_is_dirty (t.lines u a) e, committed_is_dirty (t.lines v a) f) refl)

-- ---- a bus and a table that it agrees with

module _ (b : BusState) (t : LineTable) (agrees : Agrees b t) where
  pub unit_is : (q : ℕ) → get_or b.units q 0 ≡ unit_at t q
  unit_is q = ap (λ (us : List ℕ). get_or us q 0) agrees.units

  pub line_is : (q a : ℕ) → bus_line_at b q a ≡ without_number (line_at t q a)
  line_is q a = agrees.lines (get_or b.units q 0) a ∙ ap (λ u. without_number (t.lines u a)) (unit_is q)

  pub version_seen : (q a : ℕ) → version_of_line (bus_line_at b q a) ≡ version_in (line_at t q a)
  version_seen q a = ap version_of_line (line_is q a) ∙ version_line_is (line_at t q a)

  pub exposed_seen : (q a : ℕ) → is_exposed_line (bus_line_at b q a) ≡ exposed_in (line_at t q a)
  exposed_seen q a = ap is_exposed_line (line_is q a) ∙ exposed_line_is (line_at t q a)

  pub active_seen : (q a : ℕ) → is_active_line (bus_line_at b q a) ≡ is_active (line_at t q a)
  active_seen q a = ap is_active_line (line_is q a) ∙ active_line_is (line_at t q a)

  pub reusable_seen : (q a : ℕ) → is_reusable_line (bus_line_at b q a) ≡ is_reusable (line_at t q a)
  reusable_seen q a = ap is_reusable_line (line_is q a) ∙ reusable_line_is (line_at t q a)

  newest_seen : (a : ℕ) → bus_newest b a ≡ newest t a
  newest_seen a = ap (λ n. least n (is_newest_line b a)) agrees.caches ∙ least_same t.caches _ _ (λ u h. test u)
    where
      bit : (v : ℕ) → is_committed_dirty_line (b.lines v a) ≡ is_committed_dirty (t.lines v a)
      bit v = ap is_committed_dirty_line (agrees.lines v a) ∙ committed_line_is (t.lines v a)

      test : (u : ℕ) → is_newest_line b a u ≡ is_newest t a u
      test u = ap₂ (λ x n. x && all_below n (λ v. not (is_committed_dirty_line (b.lines v a)) || not (b.is_older a u v))) (bit u) agrees.caches ∙ elim (cases_Bool (is_committed_dirty (t.lines u a))) [
        | inr clean ↦ rw clean
        | inl dirty ↦ rw dirty (all_same t.caches _ _ (λ v h. ap₂ (λ x y. not x || not y) (bit v) (agrees.order a u v) ∙ elim (cases_Bool (is_committed_dirty (t.lines v a))) [
          | inr clean ↦ rw clean
          | inl other ↦ ap (λ x. not (is_committed_dirty (t.lines v a)) || x) (sym (by_order t a u v dirty other))
        ]))
      ]

  pub committed_at : (a : ℕ) → bus_committed b a ≡ committed_value t a
  committed_at a = ap (value_of_unit b a) (newest_seen a) ∙ go (newest t a)
    where
      go : (o : Option ℕ) → value_of_unit b a o ≡ value_of t a o
      go None = agrees.backing a
      go (Some u) = ap value_of_line (agrees.lines u a) ∙ value_line_is (t.lines u a)

  row_is : (p : ℕ) → bus_row b p ≡ row_of t p
  row_is p = λ i. record {
    versions = λ a. option_or (version_seen p a i) (cond (p == 0) (agrees.spill a i) None);
    exposed = λ a. not (p == 0) && exposed_seen p a i;
  }

  pub map_is : bus_map b ≡ versioned_map t
  map_is = λ i. record {
    commits = agrees.commits i;
    committed = λ a. committed_at a i;
    rows = tabulate (length (agrees.units i)) (λ p. row_is p i);
  }

  pub supplier_is : (p a : ℕ) → bus_supplier b p a ≡ supplier t p a
  supplier_is p a = λ i. cond (active_seen p a i) Hit (cond (reusable_seen p a i) Reuse (found i))
    where
      by : (o : Option ℕ) → bus_by_version b a o ≡ by_version t a o
      by None = λ i. cond (is_some (agrees.spill a i)) Spill (by_committed (newest_seen a i))
      by (Some q) = ap Version (unit_is q)

      found : bus_by_version b a (greatest p (λ q. is_some (version_of_line (bus_line_at b q a)))) ≡ by_version t a (greatest p (λ q. is_some (version_in (line_at t q a))))
      found = ap (bus_by_version b a) (greatest_same p _ _ (λ q h. ap is_some (version_seen q a))) ∙ by _

-- ---- as laws

pub committed_seen : (b : BusState) (t : LineTable) (a : ℕ) → Agrees b t → bus_committed b a ≡ committed_value t a
committed_seen b t a agrees = committed_at b t agrees a

pub map_seen : (b : BusState) (t : LineTable) → Agrees b t → bus_map b ≡ versioned_map t
map_seen b t agrees = map_is b t agrees

pub view_seen : (b : BusState) (t : LineTable) (p a : ℕ) → Agrees b t → bus_view b p a ≡ view (versioned_map t) p a
view_seen b t p a agrees = ap (λ m. view m p a) (map_is b t agrees)

pub victim_seen : (b : BusState) (t : LineTable) (p a : ℕ) → Agrees b t → bus_victim b p a ≡ victim_answer (versioned_map t) p a
victim_seen b t p a agrees = ap (λ m. victim_answer m p a) (map_is b t agrees)

pub supplier_seen : (b : BusState) (t : LineTable) (p a : ℕ) → Agrees b t → bus_supplier b p a ≡ supplier t p a
supplier_seen b t p a agrees = supplier_is b t agrees p a

pub own_state : (probes : ℕ) (t : LineTable) → IsSound t → Agrees (state_of probes t) t
own_state probes t sound = record {
  sound = sound;
  caches = refl;
  sets = refl;
  ways = refl;
  words = refl;
  lines = λ u a. refl;
  order = λ a u v. refl;
  spill = λ a. refl;
  backing = λ a. refl;
  commits = refl;
  units = refl;
}

pub opened_agrees : (caches sets ways : ℕ) (memory : List ℕ) → Agrees (bus_opened caches sets ways memory) (opening_table caches sets ways memory)
opened_agrees caches sets ways memory = record {
  sound = (opened_law caches sets ways memory).0;
  caches = refl;
  sets = refl;
  ways = refl;
  words = refl;
  lines = λ u a. refl;
  order = λ a u v. refl;
  spill = λ a. refl;
  backing = λ a. refl;
  commits = refl;
  units = refl;
}
