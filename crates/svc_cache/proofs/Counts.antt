-- How many words of a set have lines in a list of places.
use Rattle.std.proofs.Common.{◌≡◌, ◌≢◌, ◌∙◌, refl, sym, ap, ℕ, zero, suc, ◌+◌, ◌%◌, ◌<◌, ◌≤◌, Bool, true, false, Some, None, Option, is_some, List, [], ◌∷◌, length, inl, inr, arith}
use Rattle.std.specs.Prelude.{◌==◌, ◌&&◌, cond, count_by}
use Rattle.std.proofs.lemmas.Bool.{and_from, and_left, and_parts, and_right, both_ways, cases_Bool, cases_lt, eq-eqb}
use Rattle.std.proofs.lemmas.List.Sums.{count_by-le-length, sum_by-cons}
use Rattle.svc_line.specs.Line.{SeenLine, seen_line}
use Rattle.svc_cache.specs.declared.place.CachePlace.{CachePlace}
use Rattle.svc_cache.specs.Lines.{is_in_set}
use Rattle.svc_cache.specs.Sets.{lies_in}
use Rattle.svc_cache.specs.Places.{is_held, holds, line_among}
use Rattle.svc_cache.specs.Rows.{place_at, AreHeld}
use Rattle.svc_cache.specs.Search.{how_many}
use Rattle.svc_cache.specs.Sound.{IsSoundRow}
use Rattle.svc_cache.proofs.Founds.{holds_of, holds_no_other, held_of, word_of, at_head, past_head, none-tail}
use Rattle.svc_cache.proofs.Searches.{one_if, how_many-same, how_many-none, how_many-more}

-- how many places have lines, in the set of the word
pub lines_in : (sets word : ℕ) → List CachePlace → ℕ
lines_in sets word places = count_by (lies_in sets word) places

pub lines_in-is : (sets word : ℕ) (places : List CachePlace) → count_by (lies_in sets word) places ≡ lines_in sets word places
unfolding lines_in
lines_in-is sets word places = refl

lines_in-none : (sets word : ℕ) → lines_in sets word [] ≡ 0
unfolding lines_in
lines_in-none sets word = refl

lines_in-cons : (sets word : ℕ) (place : CachePlace) (places : List CachePlace) → lines_in sets word (place ∷ places) ≡ one_if (lies_in sets word place) + lines_in sets word places
unfolding lines_in
lines_in-cons sets word place places = sum_by-cons (λ (p : CachePlace). cond (lies_in sets word p) 1 0) place places

lines_in-le : (sets word : ℕ) (places : List CachePlace) → lines_in sets word places ≤ length places
unfolding lines_in
lines_in-le sets word places = count_by-le-length (lies_in sets word) places

one_if-le : (b : Bool) → one_if b ≤ 1
one_if-le true = omega arith
one_if-le false = omega arith

held-tail : (place : CachePlace) (places : List CachePlace) → AreHeld (place ∷ places) (suc (length places)) → AreHeld places (length places)
held-tail place places all = record { held = λ k below. all.held (suc k) (omega (arith, below)) }

-- every place of a full row has a line of its set
pub lines_in-full : (sets word : ℕ) (row : List CachePlace) → IsSoundRow sets (word % sets) row → AreHeld row (length row) → lines_in sets word row ≡ length row
unfolding IsSoundRow
lines_in-full sets word [] sound all = lines_in-none sets word
lines_in-full sets word (place ∷ places) sound all =
    let whole : AreHeld (place ∷ places) (suc (length places)) = record { held = λ k below. all.held k (omega (arith, below)) } in
    let held : is_held place ≡ true = whole.held 0 (omega arith) in
    let here : one_if (lies_in sets word place) ≡ 1 = ap one_if (and_from _ _ (eq-eqb _ _ (sound.0 held).0) held) in
    let rest = lines_in-full sets word places sound.1 (held-tail place places whole) in
    lines_in-cons sets word place places ∙ omega arith

-- an empty place has none
pub lines_in-empty : (sets word : ℕ) (row : List CachePlace) (k : ℕ) → k < length row → is_held (place_at row k) ≡ false → lines_in sets word row < length row
lines_in-empty sets word [] k within empty = absurd (omega (arith, within))
lines_in-empty sets word (place ∷ places) zero within empty =
    let here : one_if (lies_in sets word place) ≡ 0 = ap one_if (and_right _ _ empty) in
    omega (arith, lines_in-cons sets word place places, lines_in-le sets word places)
lines_in-empty sets word (place ∷ places) (suc k) within empty =
    omega (arith, lines_in-cons sets word place places, lines_in-empty sets word places k (omega (arith, within)) empty, one_if-le (lies_in sets word place))

-- a row has the words of its set alone
pub found-outside : (sets s : ℕ) (row : List CachePlace) (word : ℕ) → IsSoundRow sets s row → word % sets ≢ s → line_among row word ≡ None
unfolding line_among IsSoundRow
found-outside sets s [] word sound outside = refl
found-outside sets s (place ∷ places) word sound outside = elim (cases_Bool (holds place word)) [
  | inl here ↦ absurd (outside (ap (λ w. w % sets) (sym (word_of place word here)) ∙ (sound.0 (held_of place word here)).0))
  | inr away ↦ past_head place places word away ∙ found-outside sets s places word sound.1 outside
]

-- a place outside the set changes nothing in it
outside-head : (sets word : ℕ) (place : CachePlace) (places : List CachePlace) (other : ℕ) → lies_in sets word place ≡ false → is_in_set sets (line_among (place ∷ places)) word other ≡ is_in_set sets (line_among places) word other
outside-head sets word place places other out = elim (cases_Bool (holds place other)) [
  | inl here ↦
      let not_in : (other % sets == word % sets) ≡ false = elim (cases_Bool (other % sets == word % sets)) [
        | inl same ↦ absurd (both_ways _ out (and_from _ _ (ap (λ w. w % sets == word % sets) (word_of place other here) ∙ same) (held_of place other here)))
        | inr apart ↦ apart
      ] in
      and_left _ _ not_in ∙ sym (and_left _ _ not_in)
  | inr away ↦ ap (λ (line : Option SeenLine). (other % sets == word % sets) && is_some line) (past_head place places other away)
]

-- as many words of the set have a line as places of the set
pub how_many-found : (n r sets word bound : ℕ) (places : List CachePlace) → IsSoundRow n r places → ((other : ℕ) → bound ≤ other → line_among places other ≡ None) → how_many bound (is_in_set sets (line_among places) word) ≡ lines_in sets word places
unfolding line_among IsSoundRow
how_many-found n r sets word bound [] sound ends = how_many-none bound (is_in_set sets (line_among []) word) (λ other. and_right _ _ refl) ∙ sym (lines_in-none sets word)
how_many-found n r sets word bound (place ∷ places) sound ends = elim (cases_Bool (lies_in sets word place)) [
  | inl lies ↦
      let own = place.word.0 in
      let parts : ((own % sets == word % sets) ≡ true) × (is_held place ≡ true) = and_parts (own % sets == word % sets) (is_held place) lies in
      let here : line_among (place ∷ places) own ≡ Some (seen_line place.line) = at_head place places own (holds_of place own parts.1 refl) in
      let within : own < bound = elim (cases_lt own bound) [ inl below ↦ below | inr above ↦ absurd (both_ways true (ap is_some (sym here ∙ ends own above)) refl) ] in
      let one : one_if (lies_in sets word place) ≡ 1 = ap one_if lies in
      let more = how_many-more bound (is_in_set sets (line_among places) word) (is_in_set sets (line_among (place ∷ places)) word) own within (and_right _ _ (ap is_some (sound.0 parts.1).1)) (and_from _ _ parts.0 (ap is_some here)) (λ other ne. ap (λ (line : Option SeenLine). (other % sets == word % sets) && is_some line) (past_head place places other (holds_no_other place other (λ same. ne (sym same))))) in
      let before = how_many-found n r sets word bound places sound.1 rest in
      more ∙ omega (arith, lines_in-cons sets word place places)
  | inr out ↦
      let none : one_if (lies_in sets word place) ≡ 0 = ap one_if out in
      let before = how_many-found n r sets word bound places sound.1 rest in
      how_many-same bound (is_in_set sets (line_among (place ∷ places)) word) (is_in_set sets (line_among places) word) (λ other below. outside-head sets word place places other out) ∙ omega (arith, lines_in-cons sets word place places)
]
  where
    rest : (other : ℕ) → bound ≤ other → line_among places other ≡ None
    rest other above = none-tail place places other (ends other above)
