-- The last dirty version of the list holds the committed value.
use Rattle.std.proofs.Common.{◌≡◌, ◌⊎◌, ◌∙◌, refl, sym, ap, ap₂, ℕ, ◌<◌, Bool, true, false, not, ◌&&◌, ◌||◌, Option, Some, None, List, length, get_or, unwrap_or, inl, inr, arith, true≢false, cond, eq-eqb, ne_eqb}
use Rattle.std.specs.Bool.{◌==◌}
use Rattle.std.proofs.lemmas.Bool.{cases_Bool, cases_eq}
use Rattle.svc_line.specs.Line.{seen_line}
use Rattle.svc_cache.specs.Places.{CacheValue}
use Rattle.svc_bus_laws.proofs.Searches.{least_cases, least_none, all_from, all_true}
use Rattle.svc_vol.specs.declared.held_line.HeldLine.{HeldLine}
use Rattle.svc_vol.specs.Lines.{is_committed_version, is_older_line, lines_in, IsRanked}
use Rattle.svc_vol.specs.Value.{held_at, unit_at, AreCommitted}
use Rattle.svc_vol.proofs.Ranking.{ranked_strict, ranked_total}
use Rattle.svc_retire.specs.Caches.{held_line}
use Rattle.svc_retire.specs.Memory.{with_version}
use Rattle.svc_retire.specs.Purges.{holds_version, is_newest, line_value, value_of, committed_in, IsNewestAt, IsNewest}
use Rattle.svc_retire.proofs.Emptying.{version_same, version_other}
use Rattle.svc_retire.proofs.Dropping.{both, dirty_listed, lines_are, version_line, version_dirty}

-- the last dirty version is older than no committed version of the word
oldest_none : (caches : List CacheValue) (word : ℕ) (versions : List HeldLine) (value k v : ℕ) → AreCommitted (lines_in caches word) (length caches) versions → IsRanked (length caches) (lines_in caches word) → IsNewestAt versions (length versions) value k
    → is_committed_version (held_line caches v word) ≡ true → is_older_line (length caches) (lines_in caches word) (unit_at versions k) v ≡ false
oldest_none caches word versions value k v list ranked at dirty =
    let place = dirty_listed caches word versions v list dirty in
    ap (is_older_line (length caches) (lines_in caches word) (unit_at versions k)) (sym place.2)
    ∙ before place.0 place.1 (version_dirty caches word versions place.0 list place.1 ∙ ap (λ u. is_committed_version (held_line caches u word)) place.2 ∙ dirty)
  where
    before : (j : ℕ) → j < length versions → holds_version (held_at versions j) ≡ true → is_older_line (length caches) (lines_in caches word) (unit_at versions k) (unit_at versions j) ≡ false
    before j h e = elim (cases j k) [
      | inl low ↦ elim low [
        | inl lt ↦ list.oldest_first j k lt at.within
        | inr is ↦ ap (λ n. is_older_line (length caches) (lines_in caches word) (unit_at versions k) (unit_at versions n)) is ∙ ranked_strict (length caches) (lines_in caches word) ranked (unit_at versions k)
      ]
      | inr gt ↦ absurd (true≢false (sym e ∙ at.last j gt h))
    ]
      where
        cases : (x y : ℕ) → ((x < y) ⊎ (x ≡ y)) ⊎ (y < x)
        cases x y = grind arith

pub newest_value : (caches : List CacheValue) (memory : List ℕ) (word : ℕ) (versions : List HeldLine) (last : Option ℕ) → AreCommitted (lines_in caches word) (length caches) versions → IsRanked (length caches) (lines_in caches word) → IsNewest versions (length versions) last → committed_in caches memory word ≡ unwrap_or last (get_or memory word 0)
newest_value caches memory word versions None list ranked never = ap (value_of caches memory word) (least_none (length caches) (is_newest caches word) (λ u h. first_fails (is_committed_version (held_line caches u word)) _ (clean u)))
  where
    first_fails : (x y : Bool) → x ≡ false → (x && y) ≡ false
    first_fails true y e = absurd (true≢false e)
    first_fails false y e = refl

    clean : (u : ℕ) → is_committed_version (held_line caches u word) ≡ false
    clean u = elim (cases_Bool (is_committed_version (held_line caches u word))) [
      | inr out ↦ out
      | inl dirty ↦
          let place = dirty_listed caches word versions u list dirty in
          absurd (true≢false (sym (version_dirty caches word versions place.0 list place.1 ∙ ap (λ v. is_committed_version (held_line caches v word)) place.2 ∙ dirty) ∙ never place.0 place.1))
    ]
newest_value caches memory word versions (Some value) list ranked (k, at) = elim (least_cases (length caches) (is_newest caches word)) [
  | inl (none, never) ↦ absurd (true≢false (sym passes ∙ never (unit_at versions k) (list.only k at.within).within))
  | inr (m, is, found) ↦ ap (value_of caches memory word) is ∙ same m found.passes
]
  where
    own : held_line caches (unit_at versions k) word ≡ Some (seen_line (held_at versions k).line)
    own = version_line caches word versions k list at.within

    dirty : is_committed_version (held_line caches (unit_at versions k) word) ≡ true
    dirty = sym (version_dirty caches word versions k list at.within) ∙ at.dirty

    each : (v : ℕ) → (not (is_committed_version (held_line caches v word)) || not (is_older_line (length caches) (lines_in caches word) (unit_at versions k) v)) ≡ true
    each v = elim (cases_Bool (is_committed_version (held_line caches v word))) [
      | inr clean ↦ ap (λ x. not x || not (is_older_line (length caches) (lines_in caches word) (unit_at versions k) v)) clean
      | inl d ↦ ap₂ (λ x y. not x || not y) d (oldest_none caches word versions value k v list ranked at d)
    ]

    passes : is_newest caches word (unit_at versions k) ≡ true
    passes = ap₂ (λ x y. x && y) dirty (all_from (length caches) _ (λ v h. each v))

    -- another unit whose line is older than none is the same
    same : (m : ℕ) → is_newest caches word m ≡ true → line_value (held_line caches m word) ≡ value
    same m e =
        let parts = both (is_committed_version (held_line caches m word)) _ e in
        let up = all_true (length caches) _ parts.1 (unit_at versions k) (list.only k at.within).within in
        let up_not : is_older_line (length caches) (lines_in caches word) m (unit_at versions k) ≡ false = not_true _ (sym (ap (λ x. not x || not (is_older_line (length caches) (lines_in caches word) m (unit_at versions k))) dirty) ∙ up) in
        let unit = ranked_total (length caches) (lines_in caches word) ranked m (unit_at versions k) (ap is_committed_version (lines_are caches word m) ∙ parts.0) (ap is_committed_version (lines_are caches word (unit_at versions k)) ∙ dirty) up_not (oldest_none caches word versions value k m list ranked at parts.0) in
        ap (λ v. line_value (held_line caches v word)) unit ∙ ap line_value own ∙ sym at.value_is
      where
        not_true : (x : Bool) → not x ≡ true → x ≡ false
        not_true true e = sym e
        not_true false e = refl

-- the memory after a purge of the word
pub memory_after_purge : (caches : List CacheValue) (memory : List ℕ) (word : ℕ) (versions : List HeldLine) (last : Option ℕ) → AreCommitted (lines_in caches word) (length caches) versions → IsRanked (length caches) (lines_in caches word) → IsNewest versions (length versions) last → word < length memory
    → (a : ℕ) → get_or (with_version memory word last) a 0 ≡ cond (a == word) (committed_in caches memory word) (get_or memory a 0)
memory_after_purge caches memory word versions last list ranked is within a = elim (cases_eq a word) [
  | inl e ↦
      ap (λ w. get_or (with_version memory word last) w 0) e ∙ version_same memory word last within ∙ sym (newest_value caches memory word versions last list ranked is)
      ∙ sym (ap (λ x. cond x (committed_in caches memory word) (get_or memory a 0)) (eq-eqb a word e))
  | inr ne ↦ version_other memory word a last ne ∙ sym (ap (λ x. cond x (committed_in caches memory word) (get_or memory a 0)) (ne_eqb a word ne))
]
