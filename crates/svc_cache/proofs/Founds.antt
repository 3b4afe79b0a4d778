-- What `found` answers of a row, and how it changes with one place.
use Rattle.std.proofs.Common.{◌≡◌, ◌≢◌, ◌∙◌, refl, sym, ap, ℕ, zero, suc, ◌<◌, ◌%◌, true, false, Option, Some, None, is_some, List, [], ◌∷◌, ◌++◌, length, set, drop, inl, inr, arith}
use Rattle.std.proofs.lemmas.Bool.{and_parts, and_from, and_left, and_right, both_ways, cases_Bool, cases_eq, eqb-true, eq-eqb, ne_eqb}
use Rattle.svc_line.specs.Line.{SeenLine, seen_line}
use Rattle.svc_cache.specs.declared.place.CachePlace.{CachePlace}
use Rattle.svc_cache.specs.Lines.{LineMap, with_line}
use Rattle.svc_cache.specs.Places.{is_held, holds, line_among}
use Rattle.svc_cache.specs.Rows.{place_at, LacksBelow, IsFirstHolder, IsEmptyPlaceFor}
use Rattle.svc_cache.specs.Sound.{IsSoundRow}

-- which place holds which word
pub held_of : (place : CachePlace) (word : ℕ) → holds place word ≡ true → is_held place ≡ true
held_of place word here = (and_parts _ _ here).0

pub word_of : (place : CachePlace) (word : ℕ) → holds place word ≡ true → place.word.0 ≡ word
word_of place word here = eqb-true _ _ (and_parts _ _ here).1

pub holds_of : (place : CachePlace) (word : ℕ) → is_held place ≡ true → place.word.0 ≡ word → holds place word ≡ true
holds_of place word held same = and_from _ _ held (eq-eqb _ _ same)

pub holds_no_other : (place : CachePlace) (word : ℕ) → place.word.0 ≢ word → holds place word ≡ false
holds_no_other place word ne = and_right _ _ (ne_eqb _ _ ne)

pub holds_nothing : (place : CachePlace) (word : ℕ) → is_held place ≡ false → holds place word ≡ false
holds_nothing place word empty = and_left _ _ empty

-- a word that a place does not hold is not its word
pub not_its_word : (place : CachePlace) (word : ℕ) → is_held place ≡ true → holds place word ≡ false → place.word.0 ≢ word
not_its_word place word held away same = both_ways _ away (holds_of place word held same)

-- the map with one line changed, at that word and at another
pub with_same : (lines : LineMap) (word : ℕ) (line : Option SeenLine) (other : ℕ) → other ≡ word → with_line lines word line other ≡ line
with_same lines word line other same = rw (eq-eqb other word same)

pub with_other : (lines : LineMap) (word : ℕ) (line : Option SeenLine) (other : ℕ) → other ≢ word → with_line lines word line other ≡ lines other
with_other lines word line other ne = rw (ne_eqb other word ne)

pub with_alike : (lines others : LineMap) (word : ℕ) (line : Option SeenLine) (other : ℕ) → (other ≢ word → lines other ≡ others other) → with_line lines word line other ≡ with_line others word line other
with_alike lines others word line other alike = elim (cases_eq other word) [
  | inl same ↦ with_same lines word line other same ∙ sym (with_same others word line other same)
  | inr ne ↦ with_other lines word line other ne ∙ alike ne ∙ sym (with_other others word line other ne)
]

-- the first place, and the places after it
pub at_head : (place : CachePlace) (places : List CachePlace) (word : ℕ) → holds place word ≡ true → line_among (place ∷ places) word ≡ Some (seen_line place.line)
unfolding line_among
at_head place places word here = rw here

pub past_head : (place : CachePlace) (places : List CachePlace) (word : ℕ) → holds place word ≡ false → line_among (place ∷ places) word ≡ line_among places word
unfolding line_among
past_head place places word away = rw away

-- a word that is not found is held by no first place, and is not found in the later ones
pub none-head : (place : CachePlace) (places : List CachePlace) (word : ℕ) → line_among (place ∷ places) word ≡ None → holds place word ≡ false
none-head place places word none = elim (cases_Bool (holds place word)) [
  | inl here ↦ absurd (both_ways true (ap is_some (sym (at_head place places word here) ∙ none)) refl)
  | inr away ↦ away
]

pub none-tail : (place : CachePlace) (places : List CachePlace) (word : ℕ) → line_among (place ∷ places) word ≡ None → line_among places word ≡ None
none-tail place places word none = sym (past_head place places word (none-head place places word none)) ∙ none

pub lacks-head : (place : CachePlace) (places : List CachePlace) (n word : ℕ) → LacksBelow (place ∷ places) (suc n) word → holds place word ≡ false
lacks-head place places n word all = all.lacks 0 (omega arith)

pub lacks-tail : (place : CachePlace) (places : List CachePlace) (n word : ℕ) → LacksBelow (place ∷ places) (suc n) word → LacksBelow places n word
lacks-tail place places n word all = record { lacks = λ k below. all.lacks (suc k) (omega (arith, below)) }

pub holder-tail : (place : CachePlace) (places : List CachePlace) (k word : ℕ) → IsFirstHolder (place ∷ places) word (suc k) → IsFirstHolder places word k
holder-tail place places k word first = record {
  within = let here = first.within in omega arith;
  here = first.here;
  first = lacks-tail place places k word first.first;
}

-- what is found: nothing where no place holds the word, and else the line of the first that does
pub found-lacks : (row : List CachePlace) (word : ℕ) → LacksBelow row (length row) word → line_among row word ≡ None
unfolding line_among
found-lacks [] word all = refl
found-lacks (place ∷ places) word all =
    let rest : LacksBelow (place ∷ places) (suc (length places)) word = record { lacks = λ k below. all.lacks k (omega (arith, below)) } in
    past_head place places word (lacks-head place places (length places) word rest) ∙ found-lacks places word (lacks-tail place places (length places) word rest)

pub found-here : (row : List CachePlace) (k word : ℕ) → IsFirstHolder row word k → line_among row word ≡ Some (seen_line (place_at row k).line)
found-here [] k word first = let here = first.within in absurd (omega arith)
found-here (place ∷ places) zero word first = at_head place places word first.here
found-here (place ∷ places) (suc k) word first =
    past_head place places word (lacks-head place places k word first.first) ∙ found-here places k word (holder-tail place places k word first)

pub found-dropped : (row : List CachePlace) (n word : ℕ) → LacksBelow row (length row) word → line_among (drop n row) word ≡ None
unfolding line_among
found-dropped row zero word all = found-lacks row word all
found-dropped [] (suc n) word all = refl
found-dropped (place ∷ places) (suc n) word all =
    found-dropped places n word (record { lacks = λ k below. all.lacks (suc k) (omega (arith, below)) })

pub found-later : (sets s : ℕ) (row : List CachePlace) (k word : ℕ) → IsSoundRow sets s row → IsFirstHolder row word k → line_among (drop (suc k) row) word ≡ None
unfolding IsSoundRow
found-later sets s [] k word sound first = let here = first.within in absurd (omega arith)
found-later sets s (place ∷ places) zero word sound first =
    ap (line_among places) (sym (word_of place word first.here)) ∙ (sound.0 (held_of place word first.here)).1
found-later sets s (place ∷ places) (suc k) word sound first = found-later sets s places k word sound.1 (holder-tail place places k word first)

-- a line that is found is there
pub found-valid : (row : List CachePlace) (word : ℕ) (line : SeenLine) → line_among row word ≡ Some line → line.bits.valid ≡ true
unfolding line_among
found-valid [] word line there = cc
found-valid (place ∷ places) word line there = elim (cases_Bool (holds place word)) [
  | inl here ↦
      let some : Some (seen_line place.line) ≡ Some line = sym (at_head place places word here) ∙ there in
      let same : seen_line place.line ≡ line = cc in
      sym (ap (λ (l : SeenLine). l.bits.valid) same) ∙ held_of place word here
  | inr away ↦ found-valid places word line (sym (past_head place places word away) ∙ there)
]

-- a place may take a word: it holds no other, and no other place holds the word
pub record CanTake (row : List CachePlace) (k word : ℕ) : Type 0 where
  pub within : k < length row
  pub free : (other : ℕ) → other ≢ word → holds (place_at row k) other ≡ false
  pub first : LacksBelow row k word
  pub last : line_among (drop (suc k) row) word ≡ None

pub can_take-own : (sets s : ℕ) (row : List CachePlace) (k word : ℕ) → IsSoundRow sets s row → IsFirstHolder row word k → CanTake row k word
can_take-own sets s row k word sound first = record {
  within = first.within;
  free = λ other ne. holds_no_other (place_at row k) other (λ same. ne (sym same ∙ word_of (place_at row k) word first.here));
  first = first.first;
  last = found-later sets s row k word sound first;
}

pub can_take-empty : (row : List CachePlace) (k word : ℕ) → IsEmptyPlaceFor row word k → CanTake row k word
can_take-empty row k word empty_place = record {
  within = empty_place.within;
  free = λ other ne. holds_nothing (place_at row k) other empty_place.empty;
  first = record { lacks = λ n below. let here = empty_place.within in empty_place.lacks.lacks n (omega (arith, below)) };
  last = found-dropped row (suc k) word empty_place.lacks;
}

can_take-tail : (place : CachePlace) (places : List CachePlace) (k word : ℕ) → CanTake (place ∷ places) (suc k) word → CanTake places k word
can_take-tail place places k word can = record {
  within = let here = can.within in omega arith;
  free = can.free;
  first = lacks-tail place places k word can.first;
  last = can.last;
}

-- a changed later place changes the map only there
past_change : (place : CachePlace) (places changed : List CachePlace) (word : ℕ) (line : Option SeenLine) (other : ℕ) → holds place word ≡ false → line_among changed other ≡ with_line (line_among places) word line other → line_among (place ∷ changed) other ≡ with_line (line_among (place ∷ places)) word line other
past_change place places changed word line other away rest = elim (cases_Bool (holds place other)) [
  | inl here ↦
      let ne : other ≢ word = λ same. both_ways _ away (ap (holds place) (sym same) ∙ here) in
      at_head place changed other here ∙ sym (at_head place places other here) ∙ sym (with_other (line_among (place ∷ places)) word line other ne)
  | inr past ↦
      past_head place changed other past ∙ rest ∙ with_alike (line_among places) (line_among (place ∷ places)) word line other (λ ne. sym (past_head place places other past))
]

-- a line is put
pub found-put : (row : List CachePlace) (k : ℕ) (new : CachePlace) (word : ℕ) → CanTake row k word → is_held new ≡ true → new.word.0 ≡ word → (other : ℕ) → line_among (set row k new) other ≡ with_line (line_among row) word (Some (seen_line new.line)) other
found-put [] k new word can held same other = let here = can.within in absurd (omega arith)
found-put (place ∷ places) zero new word can held same other = elim (cases_eq other word) [
  | inl e ↦ at_head new places other (holds_of new other held (same ∙ sym e)) ∙ sym (with_same (line_among (place ∷ places)) word (Some (seen_line new.line)) other e)
  | inr ne ↦
      past_head new places other (holds_no_other new other (λ e. ne (sym e ∙ same))) ∙ sym (past_head place places other (can.free other ne)) ∙ sym (with_other (line_among (place ∷ places)) word (Some (seen_line new.line)) other ne)
]
found-put (place ∷ places) (suc k) new word can held same other =
    past_change place places (set places k new) word (Some (seen_line new.line)) other (lacks-head place places k word can.first) (found-put places k new word (can_take-tail place places k word can) held same other)

pub sound-put : (sets s : ℕ) (row : List CachePlace) (k : ℕ) (new : CachePlace) (word : ℕ) → IsSoundRow sets s row → CanTake row k word → is_held new ≡ true → new.word.0 ≡ word → word % sets ≡ s → IsSoundRow sets s (set row k new)
unfolding IsSoundRow
sound-put sets s [] k new word sound can held same in_set = let here = can.within in absurd (omega arith)
sound-put sets s (place ∷ places) zero new word sound can held same in_set =
    (λ _. (ap (λ w. w % sets) same ∙ in_set, ap (line_among places) same ∙ can.last), sound.1)
sound-put sets s (place ∷ places) (suc k) new word sound can held same in_set =
    let rest = can_take-tail place places k word can in (
      λ kept.
          let ne = not_its_word place word kept (lacks-head place places k word can.first) in
          ((sound.0 kept).0, found-put places k new word rest held same place.word.0 ∙ with_other (line_among places) word (Some (seen_line new.line)) place.word.0 ne ∙ (sound.0 kept).1),
      sound-put sets s places k new word sound.1 rest held same in_set,
    )

-- a line of a word that is not found is put after the others
pub found-pushed : (places : List CachePlace) (new : CachePlace) (word : ℕ) → line_among places word ≡ None → is_held new ≡ true → new.word.0 ≡ word → (other : ℕ) → line_among (places ++ new ∷ []) other ≡ with_line (line_among places) word (Some (seen_line new.line)) other
unfolding line_among
found-pushed [] new word none held same other = elim (cases_eq other word) [
  | inl e ↦ at_head new [] other (holds_of new other held (same ∙ sym e)) ∙ sym (with_same (line_among []) word (Some (seen_line new.line)) other e)
  | inr ne ↦ past_head new [] other (holds_no_other new other (λ e. ne (sym e ∙ same))) ∙ sym (with_other (line_among []) word (Some (seen_line new.line)) other ne)
]
found-pushed (place ∷ places) new word none held same other =
    past_change place places (places ++ new ∷ []) word (Some (seen_line new.line)) other (none-head place places word none) (found-pushed places new word (none-tail place places word none) held same other)

pub sound-pushed : (sets s : ℕ) (places : List CachePlace) (new : CachePlace) (word : ℕ) → IsSoundRow sets s places → line_among places word ≡ None → is_held new ≡ true → new.word.0 ≡ word → word % sets ≡ s → IsSoundRow sets s (places ++ new ∷ [])
unfolding line_among IsSoundRow
sound-pushed sets s [] new word sound none held same in_set = (λ _. (ap (λ w. w % sets) same ∙ in_set, refl), tt)
sound-pushed sets s (place ∷ places) new word sound none held same in_set =
    let later = none-tail place places word none in (
      λ kept.
          let ne = not_its_word place word kept (none-head place places word none) in
          ((sound.0 kept).0, found-pushed places new word later held same place.word.0 ∙ with_other (line_among places) word (Some (seen_line new.line)) place.word.0 ne ∙ (sound.0 kept).1),
      sound-pushed sets s places new word sound.1 later held same in_set,
    )

-- a line is taken out
pub found-taken : (sets s : ℕ) (row : List CachePlace) (k : ℕ) (new : CachePlace) (word : ℕ) → IsSoundRow sets s row → IsFirstHolder row word k → is_held new ≡ false → (other : ℕ) → line_among (set row k new) other ≡ with_line (line_among row) word None other
unfolding IsSoundRow
found-taken sets s [] k new word sound first empty other = let here = first.within in absurd (omega arith)
found-taken sets s (place ∷ places) zero new word sound first empty other =
    past_head new places other (holds_nothing new other empty) ∙ elim (cases_eq other word) [
      | inl e ↦ ap (line_among places) e ∙ found-later sets s (place ∷ places) zero word sound first ∙ sym (with_same (line_among (place ∷ places)) word None other e)
      | inr ne ↦
          let away = holds_no_other place other (λ e. ne (sym e ∙ word_of place word first.here)) in
          sym (past_head place places other away) ∙ sym (with_other (line_among (place ∷ places)) word None other ne)
    ]
found-taken sets s (place ∷ places) (suc k) new word sound first empty other =
    past_change place places (set places k new) word None other (lacks-head place places k word first.first) (found-taken sets s places k new word sound.1 (holder-tail place places k word first) empty other)

pub sound-taken : (sets s : ℕ) (row : List CachePlace) (k : ℕ) (new : CachePlace) (word : ℕ) → IsSoundRow sets s row → IsFirstHolder row word k → is_held new ≡ false → IsSoundRow sets s (set row k new)
unfolding IsSoundRow
sound-taken sets s [] k new word sound first empty = let here = first.within in absurd (omega arith)
sound-taken sets s (place ∷ places) zero new word sound first empty = (λ held. absurd (both_ways _ empty held), sound.1)
sound-taken sets s (place ∷ places) (suc k) new word sound first empty =
    let rest = holder-tail place places k word first in
    (λ kept. ((sound.0 kept).0, found-taken sets s places k new word sound.1 rest empty place.word.0 ∙ gone (line_among places) word place.word.0 (sound.0 kept).1), sound-taken sets s places k new word sound.1 rest empty)
  where
    gone : (lines : LineMap) (word other : ℕ) → lines other ≡ None → with_line lines word None other ≡ None
    gone lines word other none = elim (cases_eq other word) [
      | inl same ↦ with_same lines word None other same
      | inr ne ↦ with_other lines word None other ne ∙ none
    ]
