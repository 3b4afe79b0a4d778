-- What a search for a place says of the map: whether the word's set is full, and which word leaves first.
use Rattle.std.proofs.Common.{◌≡◌, ◌∙◌, refl, sym, ap, subst, ℕ, zero, suc, ◌%◌, ◌<◌, ◌≤◌, Bool, true, false, Some, None, Option, is_some, is_none, List, [], ◌∷◌, length, inl, inr, arith}
use Rattle.std.specs.Prelude.{if◌then◌else◌, nat_le, nat_lt, not, ◌==◌, ◌&&◌, ◌||◌}
use Rattle.std.specs.Option.{option_or}
use Rattle.std.proofs.lemmas.Bool.{and_from, and_left, and_parts, and_right, both_ways, cases_Bool, cases_eq, cases_lt, eq-eqb, ne_eqb, le-leb, lt-leb, ltb-false}
use Rattle.svc_line.specs.Line.{SeenLine, seen_line}
use Rattle.svc_cache.specs.declared.place.CachePlace.{CachePlace}
use Rattle.svc_cache.specs.Lines.{LineMap, EndsBelow, is_committed_line, is_in_set, is_committed_in_set, is_set_full, first_to_leave, full_address}
use Rattle.svc_cache.specs.Sets.{lies_in, HasNoneBelow, IsFirstBelow}
use Rattle.svc_cache.specs.Places.{CacheValue, is_held, has_committed, holds, line_among, line_of, precedes, row_at}
use Rattle.svc_cache.specs.Rows.{place_at, IsFirstHolder, IsFoundAt, IsFullRow, IsPlaceFor, LacksBelow}
use Rattle.svc_cache.specs.Search.{least, how_many}
use Rattle.svc_cache.specs.Sound.{IsSound, IsSoundRow}
use Rattle.svc_cache.proofs.Founds.{at_head, past_head, found-here, found-lacks, held_of, holds_of, word_of}
use Rattle.svc_cache.proofs.Searches.{least-is, least-none, least-same, how_many-same}
use Rattle.svc_cache.proofs.Counts.{lines_in, lines_in-empty, lines_in-full, how_many-found, found-outside}
use Rattle.svc_cache.proofs.Caches.{in_some_set, length-row, line-found}

-- a place of the list holds the word, and its line is the word's
record IsHolder (row : List CachePlace) (word k : ℕ) : Type 0 where
  within : k < length row
  here : holds (place_at row k) word ≡ true
  line : line_among row word ≡ Some (seen_line (place_at row k).line)

holder-later : (place : CachePlace) (places : List CachePlace) (word k : ℕ) → holds place word ≡ false → IsHolder places word k → IsHolder (place ∷ places) word (suc k)
holder-later place places word k away later = record {
  within = let w = later.within in omega arith;
  here = later.here;
  line = past_head place places word away ∙ later.line;
}

-- a word that is found has a holder
holder_of : (row : List CachePlace) (word : ℕ) → is_some (line_among row word) ≡ true → (k : ℕ) × IsHolder row word k
unfolding line_among
holder_of [] word some = absurd (both_ways false refl some)
holder_of (place ∷ places) word some = elim (cases_Bool (holds place word)) [
  | inl here ↦ (0, record { within = omega arith; here = here; line = at_head place places word here })
  | inr away ↦
      let later = holder_of places word (sym (ap is_some (past_head place places word away)) ∙ some) in
      (suc later.0, holder-later place places word later.0 away later.1)
]

-- each place that has a line is its word's holder
own_holder : (sets s : ℕ) (row : List CachePlace) (k : ℕ) → IsSoundRow sets s row → k < length row → is_held (place_at row k) ≡ true → IsHolder row (place_at row k).word.0 k
unfolding IsSoundRow
own_holder sets s [] k sound within held = absurd (omega (arith, within))
own_holder sets s (place ∷ places) zero sound within held = record {
  within = omega arith;
  here = holds_of place place.word.0 held refl;
  line = at_head place places place.word.0 (holds_of place place.word.0 held refl);
}
own_holder sets s (place ∷ places) (suc k) sound within held =
    let later = own_holder sets s places k sound.1 (omega (arith, within)) held in
    let word = (place_at places k).word.0 in
    elim (cases_Bool (holds place word)) [
      | inl here ↦
          let none : line_among places word ≡ None = ap (line_among places) (sym (word_of place word here)) ∙ (sound.0 (held_of place word here)).1 in
          absurd (both_ways true (ap is_some (sym later.line ∙ none)) refl)
      | inr away ↦ holder-later place places word k away later
    ]

-- what follows where one place does not precede another, over plain variables
not_before : (c d : Bool) (w v : ℕ) → (if c then (not d || nat_lt w v) else (not d && nat_lt w v)) ≡ false → ((c ≡ true → (d ≡ true) × (v ≤ w)) × (d ≡ false → v ≤ w))
not_before true true w v late = (λ _. (refl, ltb-false w v late), λ e. absurd (both_ways true e refl))
not_before true false w v late = absurd (both_ways true late refl)
not_before false true w v late = (λ e. absurd (both_ways false refl e), λ e. absurd (both_ways true e refl))
not_before false false w v late = (λ e. absurd (both_ways false refl e), λ _. ltb-false w v late)

-- a committed place that does not precede another: that one is committed too, and its word is no greater
late_committed : (place leaver : CachePlace) → precedes place leaver ≡ false → has_committed place ≡ true → (has_committed leaver ≡ true) × (leaver.word.0 ≤ place.word.0)
late_committed place leaver late is = (not_before (has_committed place) (has_committed leaver) place.word.0 leaver.word.0 late).0 is

late_active : (place leaver : CachePlace) → precedes place leaver ≡ false → has_committed leaver ≡ false → leaver.word.0 ≤ place.word.0
late_active place leaver late is = (not_before (has_committed place) (has_committed leaver) place.word.0 leaver.word.0 late).1 is

-- a word of the set has a holder, which lies in the set
in_set_holder : (sets word : ℕ) (places : List CachePlace) (other : ℕ) → is_in_set sets (line_among places) word other ≡ true → (k : ℕ) × IsHolder places other k
in_set_holder sets word places other is = holder_of places other (and_parts (other % sets == word % sets) (is_some (line_among places other)) is).1

holder_lies : (sets word : ℕ) (places : List CachePlace) (other k : ℕ) → is_in_set sets (line_among places) word other ≡ true → IsHolder places other k → lies_in sets word (place_at places k) ≡ true
holder_lies sets word places other k is holder =
    let place = place_at places k in
    let same : (other % sets == word % sets) ≡ true = (and_parts (other % sets == word % sets) (is_some (line_among places other)) is).0 in
    and_from _ _ (ap (λ w. w % sets == word % sets) (word_of place other holder.here) ∙ same) (held_of place other holder.here)

-- a committed word's holder is committed, and no lower than the leaver, which is committed
committed_above : (sets word : ℕ) (places : List CachePlace) (leaver other : ℕ) → IsFirstBelow sets word places (length places) leaver → is_committed_in_set sets (line_among places) word other ≡ true → (has_committed (place_at places leaver) ≡ true) × ((place_at places leaver).word.0 ≤ other)
committed_above sets word places leaver other leaves is =
    let parts = and_parts (is_in_set sets (line_among places) word other) (is_committed_line (line_among places other)) is in
    let holder = in_set_holder sets word places other parts.0 in
    let place = place_at places holder.0 in
    let committed : has_committed place ≡ true = sym (ap is_committed_line holder.1.line) ∙ parts.1 in
    let late = late_committed place (place_at places leaver) (leaves.unpreceded holder.0 holder.1.within (holder_lies sets word places other holder.0 parts.0 holder.1)) committed in
    (late.0, subst (λ w. (place_at places leaver).word.0 ≤ w) (word_of place other holder.1.here) late.1)

-- no word of the set is lower than an uncommitted leaver
active_above : (sets word : ℕ) (places : List CachePlace) (leaver other : ℕ) → IsFirstBelow sets word places (length places) leaver → has_committed (place_at places leaver) ≡ false → is_in_set sets (line_among places) word other ≡ true → (place_at places leaver).word.0 ≤ other
active_above sets word places leaver other leaves active is =
    let holder = in_set_holder sets word places other is in
    let place = place_at places holder.0 in
    subst (λ w. (place_at places leaver).word.0 ≤ w) (word_of place other holder.1.here) (late_active place (place_at places leaver) (leaves.unpreceded holder.0 holder.1.within (holder_lies sets word places other holder.0 is holder.1)) active)

-- a test fails where it implies what is not so
fails : (b : Bool) → (b ≡ true → ⊥) → b ≡ false
fails true never = absurd (never refl)
fails false never = refl

-- the leaver is the set's least committed word, or its least word where none is committed
first_of_set : (n r sets word bound : ℕ) (places : List CachePlace) (leaver : ℕ) → IsSoundRow n r places → EndsBelow (line_among places) bound → IsFirstBelow sets word places (length places) leaver → first_to_leave sets bound (line_among places) word ≡ Some (place_at places leaver).word.0
first_of_set n r sets word bound places leaver sound ends leaves = elim (cases_Bool (has_committed (place_at places leaver))) [
  | inl committed ↦
      let test : is_committed_in_set sets (line_among places) word named ≡ true = and_from _ _ in_set (ap is_committed_line own.line ∙ committed) in
      ap (λ o. option_or o (least bound (is_in_set sets (line_among places) word))) (least-is bound (is_committed_in_set sets (line_among places) word) named within test (λ j below. fails _ (λ is. omega (arith, below, (committed_above sets word places leaver j leaves is).1))))
  | inr active ↦
      ap (λ o. option_or o (least bound (is_in_set sets (line_among places) word))) (least-none bound (is_committed_in_set sets (line_among places) word) (λ j below. fails _ (λ is. both_ways _ active (committed_above sets word places leaver j leaves is).0)))
      ∙ least-is bound (is_in_set sets (line_among places) word) named within in_set (λ j below. fails _ (λ is. omega (arith, below, active_above sets word places leaver j leaves active is)))
]
  where
    named : ℕ
    named = (place_at places leaver).word.0

    lies : (((place_at places leaver).word.0 % sets == word % sets) ≡ true) × (is_held (place_at places leaver) ≡ true)
    lies = and_parts ((place_at places leaver).word.0 % sets == word % sets) (is_held (place_at places leaver)) leaves.lies

    own : IsHolder places (place_at places leaver).word.0 leaver
    own = own_holder n r places leaver sound leaves.within lies.1

    in_set : is_in_set sets (line_among places) word (place_at places leaver).word.0 ≡ true
    in_set = and_from _ _ lies.0 (ap is_some own.line)

    within : (place_at places leaver).word.0 < bound
    within = elim (cases_lt (place_at places leaver).word.0 bound) [
      | inl below ↦ below
      | inr above ↦ absurd (both_ways true (ap is_some (sym own.line ∙ ends.ends _ above)) refl)
    ]

-- where no place lies in the set, no word leaves
first_of_none : (sets word bound : ℕ) (places : List CachePlace) → HasNoneBelow sets word places (length places) → first_to_leave sets bound (line_among places) word ≡ None
first_of_none sets word bound places has_none =
    λ i. option_or (least-none bound (is_committed_in_set sets (line_among places) word) (λ other below. and_left _ _ (none other)) i) (least-none bound (is_in_set sets (line_among places) word) (λ other below. none other) i)
  where
    none : (other : ℕ) → is_in_set sets (line_among places) word other ≡ false
    none other = fails _ (λ is.
        let holder = in_set_holder sets word places other is in
        both_ways _ (has_none.none holder.0 holder.1.within) (holder_lies sets word places other holder.0 is holder.1))

-- what any map answers: of a word with a line, of a set with room, and of a full set
full-own : (sets ways bound : ℕ) (lines : LineMap) (word : ℕ) (line : SeenLine) → lines word ≡ Some line → full_address sets ways bound lines word ≡ None
full-own sets ways bound lines word line here =
    let not_full : is_set_full sets ways bound lines word ≡ false = and_left _ _ (ap is_none here) in
    rw not_full

full-few : (sets ways bound : ℕ) (lines : LineMap) (word : ℕ) → how_many bound (is_in_set sets lines word) < ways → full_address sets ways bound lines word ≡ None
full-few sets ways bound lines word few =
    let not_full : is_set_full sets ways bound lines word ≡ false = and_right _ _ (lt-leb ways (how_many bound (is_in_set sets lines word)) few) in
    rw not_full

full-enough : (sets ways bound : ℕ) (lines : LineMap) (word : ℕ) → lines word ≡ None → ways ≤ how_many bound (is_in_set sets lines word) → full_address sets ways bound lines word ≡ first_to_leave sets bound lines word
full-enough sets ways bound lines word none enough =
    let is_full : is_set_full sets ways bound lines word ≡ true = and_from _ _ (ap is_none none) (le-leb ways (how_many bound (is_in_set sets lines word)) enough) in
    rw is_full

-- a search that finds no place has looked at all of them
pub lacks_all : (places : List CachePlace) (word : ℕ) (place : Option ℕ) → IsFoundAt places word place → is_some place ≡ false → LacksBelow places (length places) word
lacks_all places word None lacks none = lacks
lacks_all places word (Some k) first none = absurd (both_ways _ none refl)

-- the answers for a list of places, of which no two hold the same word
module _ (n r sets ways word : ℕ) (places : List CachePlace) (sound : IsSoundRow n r places) (bound : ℕ) where
  pub listed-own : (k : ℕ) → IsFirstHolder places word k → full_address sets ways bound (line_among places) word ≡ None
  listed-own k first = full-own sets ways bound (line_among places) word (seen_line (place_at places k).line) (found-here places k word first)

  pub listed-some : (place : Option ℕ) → IsFoundAt places word place → is_some place ≡ true → full_address sets ways bound (line_among places) word ≡ None
  listed-some None lacks some = absurd (both_ways _ refl some)
  listed-some (Some k) first some = listed-own k first

  pub listed-few : EndsBelow (line_among places) bound → lines_in sets word places < ways → full_address sets ways bound (line_among places) word ≡ None
  listed-few ends few =
      let count = how_many-found n r sets word bound places sound ends.ends in
      full-few sets ways bound (line_among places) word (omega arith)

  listed-enough : EndsBelow (line_among places) bound → LacksBelow places (length places) word → ways ≤ lines_in sets word places → full_address sets ways bound (line_among places) word ≡ first_to_leave sets bound (line_among places) word
  listed-enough ends lacks enough =
      let count = how_many-found n r sets word bound places sound ends.ends in
      full-enough sets ways bound (line_among places) word (found-lacks places word lacks) (omega arith)

  pub listed-full : (leaver : ℕ) → EndsBelow (line_among places) bound → LacksBelow places (length places) word → ways ≤ lines_in sets word places → IsFirstBelow sets word places (length places) leaver → full_address sets ways bound (line_among places) word ≡ Some (place_at places leaver).word.0
  listed-full leaver ends lacks enough leaves = listed-enough ends lacks enough ∙ first_of_set n r sets word bound places leaver sound ends leaves

  pub listed-none : EndsBelow (line_among places) bound → LacksBelow places (length places) word → ways ≤ lines_in sets word places → HasNoneBelow sets word places (length places) → full_address sets ways bound (line_among places) word ≡ None
  listed-none ends lacks enough has_none = listed-enough ends lacks enough ∙ first_of_none sets word bound places has_none

-- what is asked of a word depends on the words of its set alone
module _ (sets ways word : ℕ) (lines others : LineMap) (alike : (other : ℕ) → other % sets ≡ word % sets → lines other ≡ others other) where
  in_set-alike : (other : ℕ) → is_in_set sets lines word other ≡ is_in_set sets others word other
  in_set-alike other = elim (cases_eq (other % sets) (word % sets)) [
    | inl same ↦ ap (λ (line : Option SeenLine). (other % sets == word % sets) && is_some line) (alike other same)
    | inr ne ↦ and_left _ _ (ne_eqb _ _ ne) ∙ sym (and_left _ _ (ne_eqb _ _ ne))
  ]

  committed_in_set-alike : (other : ℕ) → is_committed_in_set sets lines word other ≡ is_committed_in_set sets others word other
  committed_in_set-alike other = elim (cases_eq (other % sets) (word % sets)) [
    | inl same ↦ ap (λ (line : Option SeenLine). ((other % sets == word % sets) && is_some line) && is_committed_line line) (alike other same)
    | inr ne ↦ and_left _ _ (and_left _ _ (ne_eqb _ _ ne)) ∙ sym (and_left _ _ (and_left _ _ (ne_eqb _ _ ne)))
  ]

  full-alike : (bound : ℕ) → full_address sets ways bound lines word ≡ full_address sets ways bound others word
  full-alike bound =
      let own : lines word ≡ others word = alike word refl in
      let count = how_many-same bound (is_in_set sets lines word) (is_in_set sets others word) (λ other below. in_set-alike other) in
      let committed = least-same bound (is_committed_in_set sets lines word) (is_committed_in_set sets others word) (λ other below. committed_in_set-alike other) in
      let any = least-same bound (is_in_set sets lines word) (is_in_set sets others word) (λ other below. in_set-alike other) in
      λ i. if is_none (own i) && nat_le ways (count i) then option_or (committed i) (any i) else None

-- a place of a row that has a line has one of a word of the set
in_own_set : (sets s : ℕ) (row : List CachePlace) (k : ℕ) → IsSoundRow sets s row → k < length row → is_held (place_at row k) ≡ true → (place_at row k).word.0 % sets ≡ s
unfolding IsSoundRow
in_own_set sets s [] k sound within held = absurd (omega (arith, within))
in_own_set sets s (place ∷ places) zero sound within held = (sound.0 held).0
in_own_set sets s (place ∷ places) (suc k) sound within held = in_own_set sets s places k sound.1 (omega (arith, within)) held

-- the answers for a cache, by the row of the word
module _ (cache : CacheValue) (word : ℕ) (sound : IsSound cache) where
  row_sound : IsSoundRow cache.sets (word % cache.sets) (row_at cache (word % cache.sets))
  row_sound = sound.rows _ (in_some_set cache word sound)

  -- a word of the same set is found in the row
  within_set : (other : ℕ) → other % cache.sets ≡ word % cache.sets → line_of cache other ≡ line_among (row_at cache (word % cache.sets)) other
  within_set other same = sym (line-found cache other (row_at cache (word % cache.sets)) (ap (row_at cache) (sym same)))

  by_row : (bound : ℕ) → full_address cache.sets cache.ways bound (line_of cache) word ≡ full_address cache.sets cache.ways bound (line_among (row_at cache (word % cache.sets))) word
  by_row bound = full-alike cache.sets cache.ways word (line_of cache) (line_among (row_at cache (word % cache.sets))) within_set bound

  -- past the bound nothing is found in the row
  row-ends : (bound : ℕ) → EndsBelow (line_of cache) bound → EndsBelow (line_among (row_at cache (word % cache.sets))) bound
  row-ends bound ends = record {
    ends = λ other above. elim (cases_eq (other % cache.sets) (word % cache.sets)) [
      | inl same ↦ sym (within_set other same) ∙ ends.ends other above
      | inr ne ↦ found-outside cache.sets (word % cache.sets) (row_at cache (word % cache.sets)) other row_sound ne
    ];
  }

  pub full-place : (bound k : ℕ) → EndsBelow (line_of cache) bound → IsPlaceFor (row_at cache (word % cache.sets)) word k → full_address cache.sets cache.ways bound (line_of cache) word ≡ None
  full-place bound k ends (inl first) = by_row bound ∙ listed-own cache.sets (word % cache.sets) cache.sets cache.ways word (row_at cache (word % cache.sets)) row_sound bound k first
  full-place bound k ends (inr empty_place) =
      let row = row_at cache (word % cache.sets) in
      let size = length-row cache (word % cache.sets) sound (in_some_set cache word sound) in
      let few = lines_in-empty cache.sets word row k empty_place.within empty_place.empty in
      by_row bound ∙ listed-few cache.sets (word % cache.sets) cache.sets cache.ways word row row_sound bound (row-ends bound ends) (omega arith)

  pub full-full : (bound named : ℕ) → EndsBelow (line_of cache) bound → IsFullRow (row_at cache (word % cache.sets)) word named → full_address cache.sets cache.ways bound (line_of cache) word ≡ Some named
  full-full bound named ends full =
      let row = row_at cache (word % cache.sets) in
      let size = length-row cache (word % cache.sets) sound (in_some_set cache word sound) in
      let all = lines_in-full cache.sets word row row_sound full.held in
      let held : is_held (place_at row full.leaver) ≡ true = full.held.held full.leaver full.leaves.within in
      let first : IsFirstBelow cache.sets word row (length row) full.leaver = record {
        within = full.leaves.within;
        lies = and_from _ _ (eq-eqb _ _ (in_own_set cache.sets (word % cache.sets) row full.leaver row_sound full.leaves.within held)) held;
        unpreceded = λ k below lies. full.leaves.unpreceded k below;
      } in
      by_row bound
      ∙ listed-full cache.sets (word % cache.sets) cache.sets cache.ways word row row_sound bound full.leaver (row-ends bound ends) full.lacks (omega arith) first
      ∙ ap Some (sym full.is_named)
