-- A word's committed dirty lines are taken out one after another.
use Rattle.std.proofs.Common.{◌≡◌, ◌≢◌, ◌⊎◌, ◌∙◌, refl, sym, ap, subst, ℕ, zero, suc, ◌+◌, ◌<◌, ◌≤◌, Bool, true, false, cond, not, ◌&&◌, ◌||◌, Option, Some, None, List, [], ◌∷◌, length, inl, inr, arith, add-zero, eq-eqb, ne_eqb, true≢false}
use Rattle.std.specs.Bool.{◌==◌}
use Rattle.std.proofs.lemmas.Bool.{cases_Bool, cases_eq, eqb-true}
use Rattle.svc_base.specs.declared.ids.UnitId.{UnitId}
use Rattle.svc_line.specs.Bits.{bits_of}
use Rattle.svc_line.specs.Line.{SeenLine, seen_line}
use Rattle.svc_cache.specs.declared.probes.Probes.{Probes}
use Rattle.svc_cache.specs.Lines.{is_committed_line}
use Rattle.svc_cache.specs.Places.{CacheValue, line_of, line_among}
use Rattle.svc_bus_laws.specs.Search.{any_below, how_many}
use Rattle.svc_bus_laws.proofs.Searches.{any_none, any_found}
use Rattle.svc_vol.specs.declared.held_line.HeldLine.{HeldLine}
use Rattle.svc_vol.specs.Lines.{is_committed_version, lines_in}
use Rattle.svc_vol.specs.Value.{held_at, unit_at, AreCommitted}
use Rattle.svc_retire.specs.Caches.{no_cache, cache_at, held_line, SameSizes}
use Rattle.svc_retire.specs.Purges.{keeps, purged_line, line_after_purge, is_purged, purges, holds_version, drops, CountsSearches}
use Rattle.svc_retire.proofs.Bools.{or_true, or_false, and_false}
use Rattle.svc_retire.proofs.Counts.{how_many_same, how_many_room, how_many_more, how_many_none}
use Rattle.svc_vol.proofs.Validity.{HasV, line_valid}

-- the unit's line was taken out among the first so many
abbrev pub is_taken : List HeldLine → Option UnitId → (count u : ℕ) → Bool
is_taken versions keep count u = any_below count (λ k. drops keep (held_at versions k) && (unit_at versions k == u))

-- what has become of the caches after the first so many
pub record IsDropped (before now : List CacheValue) (versions : List HeldLine) (keep : Option UnitId) (word count : ℕ) (probes_before probes_now : Probes) : Type 0 where
  pub lines : (u a : ℕ) → held_line now u a ≡ cond ((a == word) && is_taken versions keep count u) None (held_line before u a)
  pub sizes : SameSizes before now
  pub counted : CountsSearches probes_before probes_now (how_many (length before) (is_taken versions keep count))

no_line : (word : ℕ) → line_of no_cache word ≡ None
unfolding line_of line_among
no_line word = refl

-- the lines of a word by unit are those of the caches
pub lines_are : (caches : List CacheValue) (word u : ℕ) → lines_in caches word u ≡ line_of (cache_at caches u) word
lines_are [] word u = sym (no_line word)
lines_are (cache ∷ caches) word zero = refl
lines_are (cache ∷ caches) word (suc u) = lines_are caches word u

pub both : (x y : Bool) → (x && y) ≡ true → (x ≡ true) × (y ≡ true)
both true y e = (refl, e)
both false y e = absurd (true≢false (sym e))

-- a version's line is that of its unit
pub version_line : (caches : List CacheValue) (word : ℕ) (versions : List HeldLine) (k : ℕ) → AreCommitted (lines_in caches word) (length caches) versions → k < length versions → held_line caches (unit_at versions k) word ≡ Some (seen_line (held_at versions k).line)
version_line caches word versions k list h = sym (lines_are caches word (unit_at versions k)) ∙ (list.only k h).held

-- it is dirty where the line is a committed dirty one
pub version_dirty : (caches : List CacheValue) (word : ℕ) (versions : List HeldLine) (k : ℕ) → AreCommitted (lines_in caches word) (length caches) versions → k < length versions → holds_version (held_at versions k) ≡ is_committed_version (held_line caches (unit_at versions k) word)
version_dirty caches word versions k list h =
    let bits = bits_of (held_at versions k).line.bits in
    let is = both bits.valid bits.commit (list.only k h).committed in
    ap (λ x. x && bits.store) is.0 ∙ sym (ap (λ x. x && bits.store) is.1) ∙ sym (ap is_committed_version (version_line caches word versions k list h))

-- a committed dirty line is one of the versions
pub dirty_listed : (caches : List CacheValue) (word : ℕ) (versions : List HeldLine) (u : ℕ) → AreCommitted (lines_in caches word) (length caches) versions → is_committed_version (held_line caches u word) ≡ true → (k : ℕ) × (k < length versions) × (unit_at versions k ≡ u)
dirty_listed caches word versions u list dirty = list.each u cached (ap is_committed_line (lines_are caches word u) ∙ committed (line_of (cache_at caches u) word) (line_valid (cache_at caches u) word) dirty)
  where
    committed : (line : Option SeenLine) → HasV line → is_committed_version line ≡ true → is_committed_line line ≡ true
    committed None has e = absurd (true≢false (sym e))
    committed (Some l) has e = ap (λ x. x && l.bits.commit) has ∙ (both l.bits.commit l.bits.store e).0

    past : (cs : List CacheValue) (v : ℕ) → length cs ≤ v → cache_at cs v ≡ no_cache
    past [] v h = refl
    past (c ∷ cs) zero h = absurd (omega (arith, h))
    past (c ∷ cs) (suc v) h = past cs v (omega (arith, h))

    cached : u < length caches
    cached = elim (below u (length caches)) [
      | inl h ↦ h
      | inr h ↦ absurd (true≢false (sym dirty ∙ ap (λ (c : CacheValue). is_committed_version (line_of c word)) (past caches u h) ∙ ap (λ (line : Option SeenLine). is_committed_version line) (no_line word)))
    ]
      where
        below : (x y : ℕ) → (x < y) ⊎ (y ≤ x)
        below x y = grind arith

-- the units whose lines are taken out in all
pub taken_all : (caches : List CacheValue) (word : ℕ) (versions : List HeldLine) (keep : Option UnitId) (u : ℕ) → AreCommitted (lines_in caches word) (length caches) versions → is_taken versions keep (length versions) u ≡ is_purged caches keep word u
taken_all caches word versions keep u list = elim (cases_Bool (is_purged caches keep word u)) [
  | inl pass ↦
      let parts = both (is_committed_version (held_line caches u word)) (not (keeps keep u)) pass in
      let place = dirty_listed caches word versions u list parts.0 in
      let k = place.0 in
      let dirty : holds_version (held_at versions k) ≡ true = version_dirty caches word versions k list place.1 ∙ ap (λ v. is_committed_version (held_line caches v word)) place.2 ∙ parts.0 in
      let free : not (keeps keep (unit_at versions k)) ≡ true = ap (λ v. not (keeps keep v)) place.2 ∙ parts.1 in
      let here : (drops keep (held_at versions k) && (unit_at versions k == u)) ≡ true = rw (dirty, free, eq-eqb (unit_at versions k) u place.2) in
      any_found (length versions) _ k place.1 here ∙ sym pass
  | inr fail ↦ any_none (length versions) _ (λ k h. elim (cases_Bool (drops keep (held_at versions k) && (unit_at versions k == u))) [
    | inr out ↦ out
    | inl into ↦ absurd (true≢false (sym (into_purged k h into) ∙ fail))
  ]) ∙ sym fail
]
  where
    into_purged : (k : ℕ) → k < length versions → (drops keep (held_at versions k) && (unit_at versions k == u)) ≡ true → is_purged caches keep word u ≡ true
    into_purged k h e =
        let parts = both (drops keep (held_at versions k)) (unit_at versions k == u) e in
        let drop = both (holds_version (held_at versions k)) (not (keeps keep (unit_at versions k))) parts.0 in
        let same : unit_at versions k ≡ u = eqb-true (unit_at versions k) u parts.1 in
        let dirty : is_committed_version (held_line caches u word) ≡ true = ap (λ v. is_committed_version (held_line caches v word)) (sym same) ∙ sym (version_dirty caches word versions k list h) ∙ drop.0 in
        let free : not (keeps keep u) ≡ true = ap (λ v. not (keeps keep v)) (sym same) ∙ drop.1 in
        rw (dirty, free)

pub drop_begins : (caches : List CacheValue) (versions : List HeldLine) (keep : Option UnitId) (word : ℕ) (probes : Probes) → IsDropped caches caches versions keep word 0 probes probes
drop_begins caches versions keep word probes = record {
  lines = λ u a. sym (never (a == word) (held_line caches u a));
  sizes = record { count = refl; sets = λ u. refl; ways = λ u. refl };
  counted = record { searches = omega (arith, none); places = omega arith };
}
  where
    none : how_many (length caches) (is_taken versions keep 0) ≡ 0
    none = how_many_none (length caches) (is_taken versions keep 0) (λ u h. refl)

    never : (x : Bool) (line : Option SeenLine) → cond (x && false) None line ≡ line
    never true line = refl
    never false line = refl

-- the next version's line was not taken out yet
fresh : (caches : List CacheValue) (word : ℕ) (versions : List HeldLine) (keep : Option UnitId) (k : ℕ) → AreCommitted (lines_in caches word) (length caches) versions → k < length versions → is_taken versions keep k (unit_at versions k) ≡ false
fresh caches word versions keep k list h = any_none k _ (λ j low. and_false (drops keep (held_at versions j)) _ (ne_eqb (unit_at versions j) (unit_at versions k) (λ e. apart j low e)))
  where
    apart : (j : ℕ) → j < k → unit_at versions j ≡ unit_at versions k → ⊥
    apart j low e = let is = list.once j k (omega (arith, low, h)) h e in omega (arith, low, is)

-- so there is one cache at least that was not changed
pub taken_few : (caches : List CacheValue) (word : ℕ) (versions : List HeldLine) (keep : Option UnitId) (k : ℕ) → AreCommitted (lines_in caches word) (length caches) versions → k < length versions → how_many (length caches) (is_taken versions keep k) < length caches
taken_few caches word versions keep k list h = how_many_room (length caches) (is_taken versions keep k) (unit_at versions k) (list.only k h).within (fresh caches word versions keep k list h)

-- the count of one more
one_more : (caches : List CacheValue) (word : ℕ) (versions : List HeldLine) (keep : Option UnitId) (k : ℕ) → AreCommitted (lines_in caches word) (length caches) versions → k < length versions
    → how_many (length caches) (is_taken versions keep (suc k)) ≡ how_many (length caches) (is_taken versions keep k) + cond (drops keep (held_at versions k)) 1 0
one_more caches word versions keep k list h = elim (cases_Bool (drops keep (held_at versions k))) [
  | inr kept ↦ rw kept (how_many_same (length caches) (is_taken versions keep k) (is_taken versions keep (suc k)) (λ u low. same u kept) ∙ sym (add-zero _))
  | inl drop ↦ rw drop (how_many_more (length caches) (is_taken versions keep k) (is_taken versions keep (suc k)) (unit_at versions k) (list.only k h).within (fresh caches word versions keep k list h) (here drop) (λ u ne. other u ne))
]
  where
    same : (u : ℕ) → drops keep (held_at versions k) ≡ false → is_taken versions keep (suc k) u ≡ is_taken versions keep k u
    same u kept = or_false (is_taken versions keep k u) _ (ap (λ x. x && (unit_at versions k == u)) kept)

    other : (u : ℕ) → u ≢ unit_at versions k → is_taken versions keep (suc k) u ≡ is_taken versions keep k u
    other u ne = or_false (is_taken versions keep k u) _ (and_false (drops keep (held_at versions k)) _ (ne_eqb (unit_at versions k) u (λ e. ne (sym e))))

    here : drops keep (held_at versions k) ≡ true → is_taken versions keep (suc k) (unit_at versions k) ≡ true
    here drop = or_true (is_taken versions keep k (unit_at versions k)) _ (ap (λ x. x && (unit_at versions k == unit_at versions k)) drop ∙ eq-eqb (unit_at versions k) (unit_at versions k) refl)

-- a line that one more may take out
line_more : (x taken now : Bool) (line : Option SeenLine) → cond (x && now) None (cond (x && taken) None line) ≡ cond (x && (taken || now)) None line
line_more false taken now line = refl
line_more true true true line = refl
line_more true true false line = refl
line_more true false true line = refl
line_more true false false line = refl

pub drop_steps : (before now next : List CacheValue) (versions : List HeldLine) (keep : Option UnitId) (word k : ℕ) (probes_before probes_now probes_next : Probes)
    → AreCommitted (lines_in before word) (length before) versions → k < length versions
    → IsDropped before now versions keep word k probes_before probes_now
    → ((u a : ℕ) → held_line next u a ≡ cond ((a == word) && (drops keep (held_at versions k) && (unit_at versions k == u))) None (held_line now u a))
    → SameSizes now next
    → CountsSearches probes_now probes_next (cond (drops keep (held_at versions k)) 1 0)
    → IsDropped before next versions keep word (suc k) probes_before probes_next
drop_steps before now next versions keep word k probes_before probes_now probes_next list h done lines sizes counted = record {
  lines = λ u a.
      lines u a
      ∙ ap (λ (line : Option SeenLine). cond ((a == word) && (drops keep (held_at versions k) && (unit_at versions k == u))) None line) (done.lines u a)
      ∙ line_more (a == word) (is_taken versions keep k u) (drops keep (held_at versions k) && (unit_at versions k == u)) (held_line before u a);
  sizes = record {
    count = sizes.count ∙ done.sizes.count;
    sets = λ u. sizes.sets u ∙ done.sizes.sets u;
    ways = λ u. sizes.ways u ∙ done.sizes.ways u;
  };
  counted = record {
    searches = let a = counted.searches in let b = done.counted.searches in omega (arith, a, b, more);
    places = let a = counted.places in let b = done.counted.places in omega (arith, a, b, more);
  };
}
  where
    more : how_many (length before) (is_taken versions keep (suc k)) ≡ how_many (length before) (is_taken versions keep k) + cond (drops keep (held_at versions k)) 1 0
    more = one_more before word versions keep k list h

-- all of them were taken out
pub drop_ends : (before now : List CacheValue) (versions : List HeldLine) (keep : Option UnitId) (word : ℕ) (probes_before probes_now : Probes)
    → AreCommitted (lines_in before word) (length before) versions
    → IsDropped before now versions keep word (length versions) probes_before probes_now
    → ((u a : ℕ) → held_line now u a ≡ line_after_purge keep word u a (held_line before u a)) × CountsSearches probes_before probes_now (purges before keep word)
drop_ends before now versions keep word probes_before probes_now list done = (
  λ u a. done.lines u a ∙ elim (cases_eq a word) [
    | inl e ↦ subst (λ w. cond ((w == word) && is_taken versions keep (length versions) u) None (held_line before u w) ≡ line_after_purge keep word u w (held_line before u w)) (sym e) (here u)
    | inr ne ↦ rw (ne_eqb a word ne)
  ],
  subst (CountsSearches probes_before probes_now) (how_many_same (length before) (is_purged before keep word) (is_taken versions keep (length versions)) (λ u h. taken_all before word versions keep u list)) done.counted,
)
  where
    own : (line : Option SeenLine) (kept : Bool) → cond (is_committed_version line && not kept) None line ≡ cond kept line (purged_line line)
    own line true = go (is_committed_version line)
      where
        go : (x : Bool) → cond (x && false) None line ≡ line
        go true = refl
        go false = refl
    own line false = go (is_committed_version line)
      where
        go : (x : Bool) → cond (x && true) None line ≡ cond x None line
        go true = refl
        go false = refl

    here : (u : ℕ) → cond ((word == word) && is_taken versions keep (length versions) u) None (held_line before u word) ≡ line_after_purge keep word u word (held_line before u word)
    here u = rw (eq-eqb word word refl, taken_all before word versions keep u list) (own (held_line before u word) (keeps keep u))
