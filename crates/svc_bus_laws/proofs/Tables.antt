-- Lemmas on line tables and the map that they stand for.
use Rattle.std.proofs.Common.{◌≡◌, ◌≢◌, refl, sym, ap, ◌∙◌, ℕ, suc, ◌<◌, Some, None, true, false, Bool, not, ◌&&◌, ◌||◌, Option, length, inl, inr, arith, true≢false, is_none, leb, ltb, eq-eqb, ne_eqb}
use Rattle.std.specs.Bool.{◌==◌}
use Rattle.std.specs.Option.{option_or}
use Rattle.std.proofs.lemmas.Bool.{cases_Bool, cases_eq}
use Rattle.svc_bus_laws.specs.Search.{least}
use Rattle.svc_bus_laws.specs.Versioned.{Row, fresh_row, version, is_exposed, latest, view}
use Rattle.svc_bus_laws.specs.LineTable.{Line, LineTable, is_active, version_in, exposed_in, is_committed_dirty, task_in, value_in, line_at, is_newest, newest, committed_value, own_version, row_of, versioned_map}
use Rattle.svc_bus_laws.specs.Steps.{with_at, with_line, line_after_purging, line_after_marking}
use Rattle.svc_bus_laws.proofs.Searches.{least_same, least_none, least_cases, all_same, get_or-tabulate, length-tabulate}
use Rattle.svc_bus_laws.specs.Sound.{IsSoundLine}
use Rattle.svc_bus_laws.proofs.Maps.{latest_same}

-- ---- lines

pub no_version : (line : Option Line) → is_active line ≡ false → version_in line ≡ None
no_version None e = refl
no_version (Some l) e = rw e

pub no_exposure : (line : Option Line) → is_active line ≡ false → exposed_in line ≡ false
no_exposure None e = refl
no_exposure (Some l) e = rw e

pub dirty_settled : (line : Option Line) → is_committed_dirty line ≡ true → is_active line ≡ false
dirty_settled None e = refl
dirty_settled (Some l) e = elim (cases_Bool l.commit) [ inl set ↦ rw set | inr clear ↦ absurd (true≢false (sym e ∙ rw clear)) ]

pub purged_version : (line : Option Line) → version_in (line_after_purging line) ≡ version_in line
purged_version line = elim (cases_Bool (is_committed_dirty line)) [ inl dirty ↦ rw dirty (sym (no_version line (dirty_settled line dirty))) | inr clean ↦ rw clean ]

pub purged_exposed : (line : Option Line) → exposed_in (line_after_purging line) ≡ exposed_in line
purged_exposed line = elim (cases_Bool (is_committed_dirty line)) [ inl dirty ↦ rw dirty (sym (no_exposure line (dirty_settled line dirty))) | inr clean ↦ rw clean ]

pub purged_clean : (line : Option Line) → is_committed_dirty (line_after_purging line) ≡ false
purged_clean line = elim (cases_Bool (is_committed_dirty line)) [ inl dirty ↦ rw dirty | inr clean ↦ rw clean clean ]

-- a line that a purge leaves was there
pub purged_was : (line : Option Line) (l : Line) → line_after_purging line ≡ Some l → line ≡ Some l
purged_was line l e = elim (cases_Bool (is_committed_dirty line)) [ inl dirty ↦ absurd (none_some (rw dirty at e)) | inr clean ↦ rw clean at e ]
  where
    none_some : ◌≡◌ {A = Option Line} None (Some l) → ⊥
    none_some e = cc

-- ---- one line of a word changed

-- where a line stands after such a change
pub data Changed (lines : ℕ → ℕ → Option Line) (u a : ℕ) (x : Option Line) (f : Option Line → Option Line) (v b : ℕ) : Type 0 where
  OtherWord : b ≢ a → with_line lines u a x f v b ≡ lines v b → Changed lines u a x f v b
  SameLine : b ≡ a → v ≡ u → with_line lines u a x f v b ≡ x → Changed lines u a x f v b
  OtherUnit : b ≡ a → v ≢ u → with_line lines u a x f v b ≡ f (lines v b) → Changed lines u a x f v b

pub changed : (lines : ℕ → ℕ → Option Line) (u a : ℕ) (x : Option Line) (f : Option Line → Option Line) (v b : ℕ) → Changed lines u a x f v b
changed lines u a x f v b = elim (cases_eq b a) [
  | inr ne ↦ OtherWord ne (rw (ne_eqb b a ne))
  | inl e ↦ elim (cases_eq v u) [
    | inl same ↦ SameLine e same (rw (eq-eqb b a e, eq-eqb v u same))
    | inr other ↦ OtherUnit e other (rw (eq-eqb b a e, ne_eqb v u other))
  ]
]

pub at_same : {A : Type 0} (f : ℕ → A) (a : ℕ) (x : A) (b : ℕ) → b ≡ a → with_at f a x b ≡ x
at_same f a x b e = rw (eq-eqb b a e)

pub at_other : {A : Type 0} (f : ℕ → A) (a : ℕ) (x : A) (b : ℕ) → b ≢ a → with_at f a x b ≡ f b
at_other f a x b ne = rw (ne_eqb b a ne)

-- ---- committed values

-- two lines that are the same as committed dirty lines
pub record SameCommitted (k l : Option Line) : Type 0 where
  pub dirty : is_committed_dirty k ≡ is_committed_dirty l
  pub task : is_committed_dirty l ≡ true → task_in k ≡ task_in l
  pub value : is_committed_dirty l ≡ true → value_in k ≡ value_in l

pub same_line : (k l : Option Line) → k ≡ l → SameCommitted k l
same_line k l e = record { dirty = ap is_committed_dirty e; task = λ d. ap task_in e; value = λ d. ap value_in e }

pub both_clean : (k l : Option Line) → is_committed_dirty k ≡ false → is_committed_dirty l ≡ false → SameCommitted k l
both_clean k l e f = record { dirty = e ∙ sym f; task = λ d. absurd (true≢false (sym d ∙ f)); value = λ d. absurd (true≢false (sym d ∙ f)) }

module _ (s t : LineTable) (a : ℕ) (caches : s.caches ≡ t.caches) (same : (u : ℕ) → SameCommitted (s.lines u a) (t.lines u a)) where
  newest_test : (u : ℕ) → is_newest s a u ≡ is_newest t a u
  newest_test u = elim (cases_Bool (is_committed_dirty (t.lines u a))) [
    | inr clean ↦ rw ((same u).dirty, clean)
    | inl dirty ↦ rw ((same u).dirty, dirty, (same u).task dirty, caches) (all_same t.caches _ _ (λ v h. each v u))
  ]
    where
      each : (v u : ℕ) → (not (is_committed_dirty (s.lines v a)) || leb (task_in (s.lines v a)) (task_in (t.lines u a))) ≡ (not (is_committed_dirty (t.lines v a)) || leb (task_in (t.lines v a)) (task_in (t.lines u a)))
      each v u = elim (cases_Bool (is_committed_dirty (t.lines v a))) [
        | inr clean ↦ rw ((same v).dirty, clean)
        | inl dirty ↦ rw ((same v).dirty, dirty, (same v).task dirty)
      ]

  pub newest_same : newest s a ≡ newest t a
  newest_same = ap (λ n. least n (is_newest s a)) caches ∙ least_same t.caches _ _ (λ u h. newest_test u)

  pub committed_same : s.backing a ≡ t.backing a → committed_value s a ≡ committed_value t a
  committed_same backing = elim (least_cases t.caches (is_newest t a)) [
    | inl (none, never) ↦ rw (newest_same, none) backing
    | inr (u, is, found) ↦ rw (newest_same, is) ((same u).value (dirty_of _ _ found.passes))
  ]
    where
      dirty_of : (x y : Bool) → (x && y) ≡ true → x ≡ true
      dirty_of true y e = refl
      dirty_of false y e = absurd (true≢false (sym e))

-- without committed dirty lines the committed value is the backing word
pub committed_none : (t : LineTable) (a : ℕ) → ((u : ℕ) → is_committed_dirty (t.lines u a) ≡ false) → committed_value t a ≡ t.backing a
committed_none t a clean =
    let none = least_none t.caches (is_newest t a) (λ u h. rw (clean u)) in
    rw none

-- ---- the map's rows

module _ (t : LineTable) where
  pub rows_count : length (versioned_map t).rows ≡ length t.units
  rows_count = length-tabulate (length t.units) (row_of t)

  pub version_is : (q a : ℕ) → q < length t.units → version (versioned_map t) q a ≡ own_version t q a
  version_is q a h = ap (λ (r : Row). r.versions a) (get_or-tabulate (length t.units) (row_of t) q fresh_row h)

  pub exposed_is : (q a : ℕ) → q < length t.units → is_exposed (versioned_map t) q a ≡ (not (q == 0) && exposed_in (line_at t q a))
  exposed_is q a h = ap (λ (r : Row). r.exposed a) (get_or-tabulate (length t.units) (row_of t) q fresh_row h)

  -- what a task reads, from the lines
  pub view_is : (p a : ℕ) → p < length t.units → view (versioned_map t) p a ≡ latest (λ q. own_version t q a) (committed_value t a) (suc p)
  view_is p a h = latest_same _ _ _ _ (suc p) refl (λ q k. version_is q a (omega (arith, h, k)))

-- ---- own versions

pub or_none : {A : Type 0} (o : Option A) → option_or o None ≡ o
or_none None = refl
or_none (Some x) = refl

pub own_above : (t : LineTable) (q a : ℕ) → q ≢ 0 → own_version t q a ≡ version_in (line_at t q a)
own_above t q a ne = rw (ne_eqb q 0 ne) (or_none _)

pub some_line : (k l : Line) → ◌≡◌ {A = Option Line} (Some k) (Some l) → k ≡ l
some_line k l e = ap (λ o. elim o [ None ↦ k | Some x ↦ x ]) e

pub none_line : {P : Type 0} (l : Line) → ◌≡◌ {A = Option Line} None (Some l) → P
none_line l e = absurd (true≢false (ap is_none e))

pub lines_at : (t : LineTable) (u v a b : ℕ) → u ≡ v → a ≡ b → t.lines u a ≡ t.lines v b
lines_at t u v a b e f = λ i. t.lines (e i) (f i)

-- ---- marked lines

abbrev pub mark : ℕ → Line → Line
mark n l = record l { stale = l.stale || (l.commit || ltb l.task n) }

pub marked_was : (n : ℕ) (line : Option Line) (l : Line) → line_after_marking n line ≡ Some l → (k : Line) × (line ≡ Some k) × (mark n k ≡ l)
marked_was n None l e = none_line l e
marked_was n (Some k) l e = (k, refl, some_line _ _ e)

-- ---- a word purged while one of its lines is changed

module _ (t : LineTable) (u a : ℕ) (x : Option Line) (f : Option Line → Option Line) (sp : ℕ → Option ℕ) (clean : is_committed_dirty x ≡ false) (cleans : (line : Option Line) → is_committed_dirty (f line) ≡ false) where
  abbrev after_purge : LineTable
  after_purge = record t { lines = with_line t.lines u a x f; spill = sp; backing = with_at t.backing a (committed_value t a) }

  pub purge_cleans : (v : ℕ) → is_committed_dirty (with_line t.lines u a x f v a) ≡ false
  purge_cleans v = elim (changed t.lines u a x f v a) [
    | OtherWord ne e ↦ absurd (ne refl)
    | SameLine e same is ↦ rw is clean
    | OtherUnit e ne is ↦ rw is (cleans (t.lines v a))
  ]

  pub purge_committed : (b : ℕ) → committed_value (after_purge) b ≡ committed_value t b
  purge_committed b = elim (cases_eq b a) [
    | inl e ↦ rw e (committed_none (after_purge) a purge_cleans ∙ at_same t.backing a (committed_value t a) a refl)
    | inr ne ↦ committed_same (after_purge) t b refl (λ v. same_line _ _ (rw (ne_eqb b a ne))) (at_other t.backing a (committed_value t a) b ne)
  ]

-- ---- a change that keeps every version and every committed value

module _ (t : LineTable) (lines : ℕ → ℕ → Option Line) (sp : ℕ → Option ℕ) (backing : ℕ → ℕ) where
  abbrev pub with_parts : LineTable
  with_parts = record t { lines = lines; spill = sp; backing = backing }

  module _ (versions : (q b : ℕ) → q < length t.units → own_version (with_parts) q b ≡ own_version t q b) (committed : (b : ℕ) → committed_value (with_parts) b ≡ committed_value t b) where
    pub kept_view : (p b : ℕ) → p < length t.units → view (versioned_map (with_parts)) p b ≡ view (versioned_map t) p b
    kept_view p b h = view_is (with_parts) p b h ∙ latest_same _ _ _ _ (suc p) (committed b) (λ q k. versions q b (omega (arith, h, k))) ∙ sym (view_is t p b h)

    pub kept_line : (u b : ℕ) (l : Line) → IsSoundLine t u b l → IsSoundLine (with_parts) u b l
    kept_line u b l old = record {
      cached = old.cached;
      in_memory = old.in_memory;
      active = λ e. let w = old.active e in (
        w.0,
        w.1,
        record {
          within = w.2.within;
          task_is = w.2.task_is;
          current = w.2.current ∙ sym (kept_view w.0 b w.2.within);
          loaded = w.2.loaded;
        },
      );
      committed = λ e. record { older = (old.committed e).older; newest = λ s k. (old.committed e).newest s k ∙ sym (committed b) };
      unmarked = λ e q h k. versions q b h ∙ old.unmarked e q h k;
    }
