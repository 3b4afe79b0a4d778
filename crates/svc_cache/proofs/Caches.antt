-- How a cache's map changes with its places, and that the cache stays sound.
use Rattle.std.proofs.Common.{◌≡◌, ◌≢◌, ◌∙◌, refl, sym, ap, subst, ℕ, suc, ◌+◌, ◌*◌, ◌%◌, ◌<◌, ◌≤◌, true, false, Option, Some, None, List, [], ◌∷◌, length, set, take, drop, inl, inr, arith, length-set, length-drop}
use Rattle.std.specs.Prelude.{All, IsTrue}
use Rattle.std.proofs.lemmas.List.Elements.{All-get_or}
use Rattle.svc_base.specs.declared.config.TheConstants.{MAX_SETS, MAX_WAYS}
use Rattle.std.specs.Int.{is_power_of_two}
use Rattle.std.proofs.lemmas.Bool.{both_ways, cases_eq}
use Rattle.std.proofs.lemmas.List.{get_or-take, get_or-drop, length-take, length-take-le}
use Rattle.std.proofs.lemmas.Nat.{mod_below, row_fits}
use Rattle.std.proofs.Math.Path.{fun_ext}
use Rattle.svc_line.specs.Bits.{Bits, after_commit, after_squash}
use Rattle.svc_line.specs.Line.{SeenLine, seen_line}
use Rattle.svc_cache.specs.declared.place.CachePlace.{CachePlace}
use Rattle.svc_cache.specs.Lines.{no_lines, with_line, commit_line, squash_line}
use Rattle.svc_cache.specs.Places.{CacheValue, is_held, line_among, line_of, row_at}
use Rattle.svc_cache.specs.Rows.{no_place, place_at, LacksBelow, IsFirstHolder, IsPlaceFor}
use Rattle.svc_cache.specs.Sound.{IsSound, IsSoundRow}
use Rattle.svc_cache.specs.Changes.{HasChangedBits, IsChangedBelow}
use Rattle.svc_cache.proofs.Founds.{found-valid, CanTake, can_take-own, can_take-empty, found-lacks, found-put, sound-put, found-taken, sound-taken, holds_nothing, with_same, with_other}
use Rattle.svc_cache.proofs.Powers.{power_positive}
use Rattle.svc_cache.proofs.Rowing.{same_row, other_row}
use Rattle.svc_cache.proofs.Changing.{IsChangedRow, found-committed, found-squashed, sound-committed, sound-squashed}

-- the set of a word is one of the cache's
pub in_some_set : (cache : CacheValue) (word : ℕ) → IsSound cache → word % cache.sets < cache.sets
in_some_set cache word sound = mod_below word cache.sets (power_positive cache.sets sound.power)

-- a row has as many places as there are ways
pub length-row : (cache : CacheValue) (s : ℕ) → IsSound cache → s < cache.sets → length (row_at cache s) ≡ cache.ways
length-row cache s sound within =
    let room : s * cache.ways + cache.ways ≤ cache.sets * cache.ways = row_fits s cache.ways cache.sets cache.ways within (omega arith) in
    length-take-le cache.ways (drop (s * cache.ways) cache.places) (let size = sound.size in omega (arith, length-drop (s * cache.ways) cache.places))

-- what is found in the row of the word is the word's line
pub line-found : (cache : CacheValue) (word : ℕ) (row : List CachePlace) → row ≡ row_at cache (word % cache.sets) → line_among row word ≡ line_of cache word
unfolding line_of
line-found cache word row same = ap (λ (places : List CachePlace). line_among places word) same

-- every line of the map is there
pub line_of-valid : (cache : CacheValue) (word : ℕ) (line : SeenLine) → line_of cache word ≡ Some line → line.bits.valid ≡ true
unfolding line_of
line_of-valid cache word line there = found-valid (row_at cache (word % cache.sets)) word line there

-- one place changed
abbrev pub with_place : CacheValue → ℕ → CachePlace → CacheValue
with_place cache i new = record cache { places = set cache.places i new }

-- the row of the word and another, after a change of a place of the word's
row-same : (cache : CacheValue) (s k i : ℕ) (new : CachePlace) → k < cache.ways → i ≡ s * cache.ways + k → row_at (with_place cache i new) s ≡ set (row_at cache s) k new
row-same cache s k i new within at = ap (λ n. take cache.ways (drop (s * cache.ways) (set cache.places n new))) at ∙ same_row cache.places cache.ways s k new within

row-other : (cache : CacheValue) (s t k i : ℕ) (new : CachePlace) → k < cache.ways → i ≡ s * cache.ways + k → t ≢ s → row_at (with_place cache i new) t ≡ row_at cache t
row-other cache s t k i new within at ne = ap (λ n. take cache.ways (drop (t * cache.ways) (set cache.places n new))) at ∙ other_row cache.places cache.ways s t k new within ne

-- if a row is sound after the change, and its map is the old one with the word's line changed, the same holds of the cache
changed_cache : (cache : CacheValue) (word k i : ℕ) (new : CachePlace) (line : Option SeenLine) → IsSound cache → k < length (row_at cache (word % cache.sets)) → i ≡ (word % cache.sets) * cache.ways + k
    → IsSoundRow cache.sets (word % cache.sets) (set (row_at cache (word % cache.sets)) k new)
    → ((other : ℕ) → line_among (set (row_at cache (word % cache.sets)) k new) other ≡ with_line (line_among (row_at cache (word % cache.sets))) word line other)
    → IsSound (with_place cache i new) × (line_of (with_place cache i new) ≡ with_line (line_of cache) word line)
unfolding line_of
changed_cache cache word k i new line sound below at row_sound row_map = (
  record {
    power = sound.power;
    few_sets = sound.few_sets;
    some_ways = sound.some_ways;
    few_ways = sound.few_ways;
    size = length-set cache.places i new ∙ sound.size;
    rows = rows;
  },
  fun_ext lines,
)
  where
    within : k < cache.ways
    within = let size = length-row cache (word % cache.sets) sound (in_some_set cache word sound) in omega arith

    rows : (t : ℕ) → t < cache.sets → IsSoundRow cache.sets t (row_at (with_place cache i new) t)
    rows t there = elim (cases_eq t (word % cache.sets)) [
      | inl e ↦ subst (λ n. IsSoundRow cache.sets n (row_at (with_place cache i new) n)) (sym e) (subst (IsSoundRow cache.sets (word % cache.sets)) (sym (row-same cache (word % cache.sets) k i new within at)) row_sound)
      | inr ne ↦ subst (IsSoundRow cache.sets t) (sym (row-other cache (word % cache.sets) t k i new within at ne)) (sound.rows t there)
    ]

    lines : (other : ℕ) → line_among (row_at (with_place cache i new) (other % cache.sets)) other ≡ with_line (line_of cache) word line other
    lines other = elim (cases_eq (other % cache.sets) (word % cache.sets)) [
      | inl e ↦
          ap (λ t. line_among (row_at (with_place cache i new) t) other) e
          ∙ ap (λ (row : List CachePlace). line_among row other) (row-same cache (word % cache.sets) k i new within at)
          ∙ row_map other
          ∙ elim (cases_eq other word) [
            | inl same ↦ with_same (line_among (row_at cache (word % cache.sets))) word line other same ∙ sym (with_same (line_of cache) word line other same)
            | inr ne ↦ with_other (line_among (row_at cache (word % cache.sets))) word line other ne ∙ ap (λ t. line_among (row_at cache t) other) (sym e) ∙ sym (with_other (line_of cache) word line other ne)
          ]
      | inr ne ↦
          ap (λ (row : List CachePlace). line_among row other) (row-other cache (word % cache.sets) (other % cache.sets) k i new within at ne)
          ∙ sym (with_other (line_of cache) word line other (λ e. ne (ap (λ w. w % cache.sets) e)))
    ]

pub put_line : (cache : CacheValue) (word k i : ℕ) (new : CachePlace) → IsSound cache → CanTake (row_at cache (word % cache.sets)) k word → i ≡ (word % cache.sets) * cache.ways + k → is_held new ≡ true → new.word.0 ≡ word → IsSound (with_place cache i new) × (line_of (with_place cache i new) ≡ with_line (line_of cache) word (Some (seen_line new.line)))
put_line cache word k i new sound can at held same =
    let s = word % cache.sets in
    let row = row_at cache s in
    changed_cache cache word k i new (Some (seen_line new.line)) sound can.within at
    (sound-put cache.sets s row k new word (sound.rows s (in_some_set cache word sound)) can held same refl)
    (found-put row k new word can held same)

pub fill_place : (cache : CacheValue) (word k i : ℕ) (new : CachePlace) → IsSound cache → IsPlaceFor (row_at cache (word % cache.sets)) word k → i ≡ (word % cache.sets) * cache.ways + k → is_held new ≡ true → new.word.0 ≡ word → IsSound (with_place cache i new) × (line_of (with_place cache i new) ≡ with_line (line_of cache) word (Some (seen_line new.line)))
fill_place cache word k i new sound (inl first) at held same =
    put_line cache word k i new sound (can_take-own cache.sets (word % cache.sets) _ k word (sound.rows _ (in_some_set cache word sound)) first) at held same
fill_place cache word k i new sound (inr empty) at held same = put_line cache word k i new sound (can_take-empty _ k word empty) at held same

pub take_line : (cache : CacheValue) (word k i : ℕ) (new : CachePlace) → IsSound cache → IsFirstHolder (row_at cache (word % cache.sets)) word k → i ≡ (word % cache.sets) * cache.ways + k → is_held new ≡ false → IsSound (with_place cache i new) × (line_of (with_place cache i new) ≡ with_line (line_of cache) word None)
take_line cache word k i new sound first at empty =
    let s = word % cache.sets in
    let row = row_at cache s in
    let row_sound = sound.rows s (in_some_set cache word sound) in
    changed_cache cache word k i new None sound first.within at
    (sound-taken cache.sets s row k new word row_sound first empty)
    (found-taken cache.sets s row k new word row_sound first empty)

-- a word without a line is taken out already
pub without_line : (cache : CacheValue) (word : ℕ) → LacksBelow (row_at cache (word % cache.sets)) (length (row_at cache (word % cache.sets))) word → line_of cache ≡ with_line (line_of cache) word None
without_line cache word lacks = fun_ext (λ other. elim (cases_eq other word) [
  | inl same ↦ ap (line_of cache) same ∙ sym (line-found cache word (row_at cache (word % cache.sets)) refl) ∙ found-lacks (row_at cache (word % cache.sets)) word lacks ∙ sym (with_same (line_of cache) word None other same)
  | inr ne ↦ sym (with_other (line_of cache) word None other ne)
])

-- a place of a row is a place of the cache
place_at-row : (places : List CachePlace) (ways start k : ℕ) → k < ways → place_at (take ways (drop start places)) k ≡ place_at places (start + k)
place_at-row places ways start k near = get_or-take ways (drop start places) k _ near ∙ get_or-drop start places k _

-- the bits of every place changed: so have those of every row
pub changed-row : (change : Bits → Bits) (before after : List CachePlace) (ways start n : ℕ) → length before ≤ n → IsChangedBelow change n before after → IsChangedRow change (take ways (drop start before)) (take ways (drop start after))
changed-row change before after ways start n all_of changed = record {
  size = let e = changed.size in omega (arith, length-take ways (drop start before), length-take ways (drop start after), length-drop start before, length-drop start after);
  changed = λ k below.
      let near : k < ways = omega (arith, below, length-take ways (drop start before)) in
      let far : start + k < length before = omega (arith, below, length-take ways (drop start before), length-drop start before) in
      subst (λ (p : CachePlace). HasChangedBits change p (place_at (take ways (drop start after)) k)) (sym (place_at-row before ways start k near))
      (subst (HasChangedBits change (place_at before (start + k))) (sym (place_at-row after ways start k near)) (changed.changed (start + k) (omega (arith, far, all_of))));
}

-- a cache whose places changed so, row by row
abbrev pub with_places : CacheValue → List CachePlace → CacheValue
with_places cache places = record cache { places = places }

-- a row of lines of the set stays one, and its map changes line by line
abbrev pub ChangesRow : (Bits → Bits) → (Option SeenLine → Option SeenLine) → (sets : ℕ) → Type 0
ChangesRow change line_change sets = (s : ℕ) (before after : List CachePlace) → IsChangedRow change before after → IsSoundRow sets s before → IsSoundRow sets s after × ((word : ℕ) → line_among after word ≡ line_change (line_among before word))

changed_rows : (change : Bits → Bits) (line_change : Option SeenLine → Option SeenLine) (cache : CacheValue) (places : List CachePlace) (n : ℕ) → ChangesRow change line_change cache.sets → IsSound cache → length cache.places ≤ n → IsChangedBelow change n cache.places places → IsSound (with_places cache places) × (line_of (with_places cache places) ≡ (λ word. line_change (line_of cache word)))
unfolding line_of
changed_rows change line_change cache places n by_row sound all_of changed = (
  record {
    power = sound.power;
    few_sets = sound.few_sets;
    some_ways = sound.some_ways;
    few_ways = sound.few_ways;
    size = changed.size ∙ sound.size;
    rows = λ s below. (row s below).0;
  },
  fun_ext (λ word. (row (word % cache.sets) (in_some_set cache word sound)).1 word),
)
  where
    row : (s : ℕ) → s < cache.sets → IsSoundRow cache.sets s (row_at (with_places cache places) s) × ((word : ℕ) → line_among (row_at (with_places cache places) s) word ≡ line_change (line_among (row_at cache s) word))
    row s below = by_row s (row_at cache s) (row_at (with_places cache places) s) (changed-row change cache.places places cache.ways (s * cache.ways) n all_of changed) (sound.rows s below)

changed_places : (change : Bits → Bits) (line_change : Option SeenLine → Option SeenLine) (before after : CacheValue) (n : ℕ) → ChangesRow change line_change before.sets → IsSound before → after.sets ≡ before.sets → after.ways ≡ before.ways → length before.places ≤ n → IsChangedBelow change n before.places after.places → IsSound after × (line_of after ≡ (λ word. line_change (line_of before word)))
changed_places change line_change before after n by_row sound sets ways all_of changed =
    let same : with_places before after.places ≡ after = λ i. record { sets = sym sets i; ways = sym ways i; places = after.places } in
    subst (λ (cache : CacheValue). IsSound cache × (line_of cache ≡ (λ word. line_change (line_of before word)))) same (changed_rows change line_change before after.places n by_row sound all_of changed)

pub committed_places : (before after : CacheValue) (n : ℕ) → IsSound before → after.sets ≡ before.sets → after.ways ≡ before.ways → length before.places ≤ n → IsChangedBelow after_commit n before.places after.places → IsSound after × (line_of after ≡ (λ word. commit_line (line_of before word)))
committed_places before after n =
    changed_places after_commit commit_line before after n (λ s row new all sound. (sound-committed before.sets s row new all sound, found-committed row new all))

pub squashed_places : (before after : CacheValue) (n : ℕ) → IsSound before → after.sets ≡ before.sets → after.ways ≡ before.ways → length before.places ≤ n → IsChangedBelow after_squash n before.places after.places → IsSound after × (line_of after ≡ (λ word. squash_line (line_of before word)))
squashed_places before after n =
    changed_places after_squash squash_line before after n (λ s row new all sound. (sound-squashed before.sets s row new all sound, found-squashed before.sets s row new all sound))

-- places without lines make an empty cache
sound-empty : (sets s : ℕ) (row : List CachePlace) → ((k : ℕ) → k < length row → is_held (place_at row k) ≡ false) → IsSoundRow sets s row
unfolding IsSoundRow
sound-empty sets s [] empty = tt
sound-empty sets s (place ∷ places) empty =
    (λ held. absurd (both_ways _ (empty 0 (omega arith)) held), sound-empty sets s places (λ k below. empty (suc k) (omega (arith, below))))

row-empty : (places : List CachePlace) (ways start : ℕ) → All (λ place. is_held place ≡ false) places → (k : ℕ) → k < length (take ways (drop start places)) → is_held (place_at (take ways (drop start places)) k) ≡ false
row-empty places ways start empty k below =
    let near : k < ways = omega (arith, below, length-take ways (drop start places)) in
    let far : start + k < length places = omega (arith, below, length-take ways (drop start places), length-drop start places) in
    ap is_held (place_at-row places ways start k near) ∙ All-get_or (λ (place : CachePlace). is_held place ≡ false) places (start + k) no_place far empty

pub opened_cache : (cache : CacheValue) → IsTrue (is_power_of_two cache.sets) → cache.sets ≤ MAX_SETS → 1 ≤ cache.ways → cache.ways ≤ MAX_WAYS → length cache.places ≡ cache.sets * cache.ways → All (λ place. is_held place ≡ false) cache.places → IsSound cache × (line_of cache ≡ no_lines)
unfolding line_of
opened_cache cache power few_sets some_ways few_ways size empty = (
  record {
    power = power;
    few_sets = few_sets;
    some_ways = some_ways;
    few_ways = few_ways;
    size = size;
    rows = λ s below. sound-empty cache.sets s (row_at cache s) (row-empty cache.places cache.ways (s * cache.ways) empty);
  },
  fun_ext (λ word.
      let row = row_at cache (word % cache.sets) in
      found-lacks row word (record { lacks = λ k below. holds_nothing (place_at row k) word (row-empty cache.places cache.ways (word % cache.sets * cache.ways) empty k below) })),
)
