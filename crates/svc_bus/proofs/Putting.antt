-- One unit's line of a word is put, and the word is purged in the other caches: in either order.
use Rattle.std.proofs.Common.{◌≡◌, ◌≢◌, ◌∙◌, refl, sym, ap, subst, ℕ, ◌+◌, ◌<◌, ◌≤◌, Bool, true, false, cond, not, ◌&&◌, ◌||◌, suc, Option, Some, None, List, [], ◌∷◌, length, inl, inr, arith, eq-eqb, true≢false, Ok, Err, OnErr, MatchResult}
use Rattle.std.specs.Prelude.{Result}
use Rattle.std.specs.Bool.{◌==◌}
use Rattle.std.proofs.lemmas.Bool.{and_parts, cases_Bool, cases_eq, eqb-true}
use Rattle.std.proofs.lemmas.List.Folds.{list_any_at}
use Rattle.svc_base.specs.declared.ids.UnitId.{UnitId}
use Rattle.svc_line.specs.Line.{SeenLine, seen_line}
use Rattle.svc_cache.specs.declared.probes.Probes.{Probes}
use Rattle.svc_cache.specs.declared.row.SetFull.{SetFull}
use Rattle.svc_cache.specs.Lines.{LineMap, EndsBelow, full_address}
use Rattle.svc_cache.specs.Lines as cache_lines
use Rattle.svc_cache.specs.Places.{CacheValue, line_of}
use Rattle.svc_bus_laws.specs.Search.{all_below, how_many, least}
use Rattle.svc_bus_laws.proofs.Searches.{least_cases}
use Rattle.svc_vol.specs.declared.held_line.HeldLine.{HeldLine}
use Rattle.svc_vol.specs.Lines.{is_committed_version, is_older_line, lines_in, link_of, IsRanked}
use Rattle.svc_vol.proofs.Ranking.{older_kept, ranked_kept, SameVersions}
use Rattle.svc_vol.specs.Value.{AreCommitted, no_held_line, unit_at, held_at}
use Rattle.svc_vcl.specs.Planned.{is_named}
use Rattle.svc_retire.specs.Caches.{cache_at, held_line, SameSizes}
use Rattle.svc_retire.specs.Purges.{committed_in, is_newest, keeps, line_after_purge, line_value, purges, value_of, CountsSearches}
use Rattle.svc_retire.proofs.Dropping.{lines_are}
use Rattle.svc_vol.proofs.Validity.{HasV, line_valid}
use Rattle.svc_bus.specs.Lines.{with_line}

-- a version of the unit is listed, or none is
abbrev pub HasOwn : List HeldLine → ℕ → Type 0
HasOwn versions unit = (k : ℕ) × (k < length versions) × (unit_at versions k ≡ unit)

abbrev pub LacksOwn : List HeldLine → ℕ → Type 0
LacksOwn versions unit = (k : ℕ) → k < length versions → unit_at versions k ≢ unit

pub has_own : (versions : List HeldLine) (unit : ℕ) → is_named versions unit ≡ true → HasOwn versions unit
has_own [] unit named = absurd (true≢false (sym named))
has_own (version ∷ versions) unit named = elim (cases_Bool (version.unit.0 == unit)) [
  | inl here ↦ (0, omega arith, eqb-true version.unit.0 unit here)
  | inr other ↦
      let rest = has_own versions unit (sym (ap (λ x. x || is_named versions unit) other) ∙ named) in
      (suc rest.0, omega (arith, rest.1), rest.2)
]

pub lacks_own : (versions : List HeldLine) (unit : ℕ) → is_named versions unit ≡ false → LacksOwn versions unit
lacks_own versions unit none k within same = true≢false (sym (list_any_at (λ (version : HeldLine). version.unit.0 == unit) versions k no_held_line within (eq-eqb (unit_at versions k) unit same)) ∙ none)

-- ---- a line over the unit's own committed one

-- a word that has a line finds room
pub never_full : (sets ways bound : ℕ) (lines : LineMap) (word : ℕ) (line : SeenLine) → lines word ≡ Some line → full_address sets ways bound lines word ≡ None
never_full sets ways bound lines word line is = rw is refl

-- the unit keeps its own line where the word is purged
own_kept : (before now : List CacheValue) (unit : UnitId) (word : ℕ) → ((u a : ℕ) → held_line now u a ≡ line_after_purge (Some unit) word u a (held_line before u a)) → (a : ℕ) → held_line now unit.0 a ≡ held_line before unit.0 a
own_kept before now unit word lines a = lines unit.0 a ∙ rw (eq-eqb unit.0 unit.0 refl) (same (a == word))
  where
    same : (b : Bool) → cond b (held_line before unit.0 a) (held_line before unit.0 a) ≡ held_line before unit.0 a
    same true = refl
    same false = refl

-- what the fill of the unit's cache answers where that has room for the word
abbrev pub Answers : {A : Type 0} → Result A SetFull → CacheValue → (bound word : ℕ) → Type 0
Answers r cache bound word = MatchResult r (λ _. full_address cache.sets cache.ways bound (line_of cache) word ≡ None) (λ e. full_address cache.sets cache.ways bound (line_of cache) word ≡ Some e.0.0)

fits : {A : Type 0} (r : Result A SetFull) (cache : CacheValue) (bound word : ℕ) (line : SeenLine) → line_of cache word ≡ Some line → Answers r cache bound word → (x : A) × (r ≡ Ok x)
fits (Ok x) cache bound word line is answers = (x, refl)
fits (Err e) cache bound word line is answers = let none = never_full cache.sets cache.ways bound (line_of cache) word line is in cc

module _ {A : Type 0} (r : Result A SetFull) (before now : List CacheValue) (versions : List HeldLine) (unit : UnitId) (word bound : ℕ)
    (listed : AreCommitted (lines_in before word) (length before) versions) (k : ℕ) (within : k < length versions) (own : unit_at versions k ≡ unit.0)
    (ends : EndsBelow (line_of (cache_at before unit.0)) bound)
    (lines : (u a : ℕ) → held_line now u a ≡ line_after_purge (Some unit) word u a (held_line before u a))
    (answers : (b : ℕ) → EndsBelow (line_of (cache_at now unit.0)) b → Answers r (cache_at now unit.0) b word) where
  line : SeenLine
  line = seen_line (held_at versions k).line

  there : line_of (cache_at before unit.0) word ≡ Some line
  unfolding line
  there = sym (lines_are before word unit.0) ∙ ap (lines_in before word) (sym own) ∙ (listed.only k within).held

  still : line_of (cache_at now unit.0) word ≡ Some line
  still = own_kept before now unit word lines word ∙ there

  -- the fill that follows the purge is not refused
  pub filled : (x : A) × (r ≡ Ok x)
  filled = fits r (cache_at now unit.0) bound word line still (answers bound (record { ends = λ a past. own_kept before now unit word lines a ∙ ends.ends a past }))

  pub filled_answers : Answers r (cache_at before unit.0) bound word
  filled_answers = subst (λ q. Answers q (cache_at before unit.0) bound word) (sym filled.1) (never_full (cache_at before unit.0).sets (cache_at before unit.0).ways bound (line_of (cache_at before unit.0)) word line there)

  pub filled_not : (P : Type 0) → OnErr r P
  filled_not P = subst (λ q. OnErr q P) (sym filled.1) tt

-- ---- a line where the unit has no committed one

-- a line with C clear is not committed
not_committed : (l : SeenLine) → l.bits.commit ≡ false → cache_lines.is_committed_line (Some l) ≡ false
not_committed l clear = ap (λ c. l.bits.valid && c) clear ∙ never l.bits.valid
  where
    never : (b : Bool) → (b && false) ≡ false
    never true = refl
    never false = refl

-- a line that is not committed is no version
clean_of : (line : Option SeenLine) → HasV line → cache_lines.is_committed_line line ≡ false → is_committed_version line ≡ false
clean_of None valid e = refl
clean_of (Some m) valid e = ap (λ c. c && m.bits.store) (sym (ap (λ v. v && m.bits.commit) valid) ∙ e)

-- two counts after each other
pub counts_both : (first second third : Probes) (m n both : ℕ) → both ≡ m + n → CountsSearches first second m → CountsSearches second third n → CountsSearches first third both
counts_both first second third m n both is one two = record {
  searches = omega (arith, is, one.searches, two.searches);
  places = omega (arith, is, one.places, two.places);
}

module _ (before now : List CacheValue) (versions : List HeldLine) (unit : UnitId) (word : ℕ) (line : SeenLine)
    (listed : AreCommitted (lines_in before word) (length before) versions) (absent : (k : ℕ) → k < length versions → unit_at versions k ≢ unit.0) (known : unit.0 < length before)
    (clear : line.bits.commit ≡ false)
    (lines : (u a : ℕ) → held_line now u a ≡ with_line (held_line before) unit.0 word (Some line) (λ other. other) u a)
    (others : (u : ℕ) → u ≢ unit.0 → cache_at now u ≡ cache_at before u)
    (sizes : SameSizes before now) where
  own_now : held_line now unit.0 word ≡ Some line
  own_now = lines unit.0 word ∙ rw (eq-eqb word word refl, eq-eqb unit.0 unit.0 refl) refl

  own_fresh : cache_lines.is_committed_line (lines_in now word unit.0) ≡ false
  own_fresh = ap cache_lines.is_committed_line (lines_are now word unit.0 ∙ own_now) ∙ not_committed line clear

  own_before : cache_lines.is_committed_line (lines_in before word unit.0) ≡ false
  own_before = elim (cases_Bool (cache_lines.is_committed_line (lines_in before word unit.0))) [
    | inr out ↦ out
    | inl committed ↦ let place = listed.each unit.0 known committed in absurd (absent place.0 place.1 place.2)
  ]

  other_line : (u : ℕ) → u ≢ unit.0 → lines_in now word u ≡ lines_in before word u
  other_line u ne = lines_are now word u ∙ ap (λ (cache : CacheValue). line_of cache word) (others u ne) ∙ sym (lines_are before word u)

  no_version_before : is_committed_version (held_line before unit.0 word) ≡ false
  no_version_before = clean_of (held_line before unit.0 word) (line_valid (cache_at before unit.0) word) (ap cache_lines.is_committed_line (sym (lines_are before word unit.0)) ∙ own_before)

  no_version_now : is_committed_version (held_line now unit.0 word) ≡ false
  no_version_now = ap is_committed_version own_now ∙ ap (λ c. c && line.bits.store) clear

  -- the committed versions are the same, with their links
  same_versions : SameVersions (lines_in before word) (lines_in now word)
  same_versions = record {
    dirty = λ u. elim (cases_eq u unit.0) [
      | inl e ↦
          ap (λ v. is_committed_version (lines_in now word v)) e ∙ ap is_committed_version (lines_are now word unit.0) ∙ no_version_now
          ∙ sym (ap (λ v. is_committed_version (lines_in before word v)) e ∙ ap is_committed_version (lines_are before word unit.0) ∙ no_version_before)
      | inr ne ↦ ap is_committed_version (other_line u ne)
    ];
    link = λ u version. elim (cases_eq u unit.0) [
      | inl e ↦ absurd (true≢false (sym version ∙ ap (λ v. is_committed_version (lines_in before word v)) e ∙ ap is_committed_version (lines_are before word unit.0) ∙ no_version_before))
      | inr ne ↦ ap link_of (other_line u ne)
    ];
  }

  -- so they still make one chain
  pub still_ranked : IsRanked (length before) (lines_in before word) → IsRanked (length now) (lines_in now word)
  still_ranked ranked = subst (λ n. IsRanked n (lines_in now word)) (sym sizes.count) (ranked_kept (length before) (lines_in before word) (lines_in now word) same_versions ranked)

  order_kept : (u v : ℕ) → is_older_line (length now) (lines_in now word) u v ≡ is_older_line (length before) (lines_in before word) u v
  order_kept u v = ap (λ n. is_older_line n (lines_in now word) u v) sizes.count ∙ older_kept (length before) (lines_in before word) (lines_in now word) same_versions u v

  -- the list still has the committed lines
  pub still_listed : AreCommitted (lines_in now word) (length now) versions
  still_listed = record {
    few = subst (λ n. length versions ≤ n) (sym sizes.count) listed.few;
    only = λ k h. let is = listed.only k h in record {
      within = subst (λ n. unit_at versions k < n) (sym sizes.count) is.within;
      held = other_line (unit_at versions k) (absent k h) ∙ is.held;
      committed = is.committed;
    };
    each = λ u h committed. elim (cases_eq u unit.0) [
      | inl e ↦ absurd (true≢false (sym committed ∙ ap (λ v. cache_lines.is_committed_line (lines_in now word v)) e ∙ own_fresh))
      | inr ne ↦ listed.each u (subst (λ n. u < n) sizes.count h) (ap cache_lines.is_committed_line (sym (other_line u ne)) ∙ committed)
    ];
    once = listed.once;
    oldest_first = λ i j less h. order_kept (unit_at versions j) (unit_at versions i) ∙ listed.oldest_first i j less h;
  }

  version_kept : (u : ℕ) → is_committed_version (held_line now u word) ≡ is_committed_version (held_line before u word)
  version_kept u = ap is_committed_version (sym (lines_are now word u)) ∙ same_versions.dirty u ∙ ap is_committed_version (lines_are before word u)

  newest_kept : (u : ℕ) → is_newest now word u ≡ is_newest before word u
  newest_kept u = λ i. version_kept u i && all_below (sizes.count i) (λ v. not (version_kept v i) || not (order_kept u v i))

  -- so the committed value is the same
  pub committed_kept : (memory : List ℕ) → committed_in now memory word ≡ committed_in before memory word
  committed_kept memory = (λ i. value_of now memory word (least (sizes.count i) (λ u. newest_kept u i))) ∙ elim (least_cases (length before) (is_newest before word)) [
    | inl (none, never) ↦ ap (value_of now memory word) none ∙ sym (ap (value_of before memory word) none)
    | inr (u, is, found) ↦ ap (value_of now memory word) is ∙ ap line_value (same u (and_parts _ _ found.passes).0) ∙ sym (ap (value_of before memory word) is)
  ]
    where
      same : (u : ℕ) → is_committed_version (held_line before u word) ≡ true → held_line now u word ≡ held_line before u word
      same u version = elim (cases_eq u unit.0) [
        | inl e ↦ absurd (true≢false (sym version ∙ ap (λ v. is_committed_version (held_line before v word)) e ∙ no_version_before))
        | inr ne ↦ ap (λ (cache : CacheValue). line_of cache word) (others u ne)
      ]

  -- and so many lines are to be taken out
  pub purges_kept : purges now (Some unit) word ≡ purges before (Some unit) word
  purges_kept = λ i. how_many (sizes.count i) (λ u. version_kept u i && not (keeps (Some unit) u))
