-- Each code is read off a key again, where those of 0 aren't listed.
use Rattle.std.proofs.Common.{ℕ, zero, suc, ◌≡◌, ◌≢◌, ◌+◌, ◌*◌, ◌/◌, ◌%◌, ◌<◌, ◌≤◌, ◌==◌, Bool, true, false, cond, List, [], ◌∷◌, ◌++◌, Option, Some, None, inl, inr, refl, sym, ap, ◌∙◌, subst, arith, eq-eqb, ne_eqb}
use Rattle.std.proofs.lemmas.Nat.{div-mul-add, mod-mul-add}
use Rattle.svc_bus_laws.specs.BusLine.{BusLine}
use Rattle.svc_bus_laws.specs.BusState.{BusState}
use Rattle.svc_bus_laws.specs.BusView.{bus_newest, is_newest_line}
use Rattle.svc_bus_laws.proofs.Searches.{cases_below, least_cases}
use Rattle.svc_explore.specs.KeyWords.{code_words, slot_words, newest_slot, spill_slot, line_code, unit_code, spill_code, lines_words, newest_words, spill_words}

-- the code in a slot of a word, as a list of numbers has it: the sum of all that the list has of it
abbrev pub code_in : (slot word : ℕ) → List ℕ → ℕ
code_in slot word [] = 0
code_in slot word (n ∷ ns) = cond (n / 32 == word * 32 + slot) (n % 32) 0 + code_in slot word ns

code_append : (slot word : ℕ) (xs ys : List ℕ) → code_in slot word (xs ++ ys) ≡ code_in slot word xs + code_in slot word ys
code_append slot word [] ys = omega arith
code_append slot word (x ∷ xs) ys = let e = code_append slot word xs ys in omega (arith, e)

-- a code that isn't 0 is one number
one_number : (slot word n : ℕ) → code_words slot word (suc n) ≡ ((word * 32 + slot) * 32 + suc n) ∷ []
one_number slot word n = ap (λ b. cond b [] (((word * 32 + slot) * 32 + suc n) ∷ [])) (ne_eqb (suc n) 0 (λ e. omega (arith, e)))

-- a code is listed where it is
code_here : (slot word code : ℕ) → code < 32 → code_in slot word (code_words slot word code) ≡ code
code_here slot word zero small = refl
code_here slot word (suc n) small =
    let k : ℕ = word * 32 + slot in
    ap (code_in slot word) (one_number slot word n)
    ∙ ap (λ b. cond b ((k * 32 + suc n) % 32) 0 + 0) (eq-eqb ((k * 32 + suc n) / 32) k (div-mul-add k 32 (suc n) small))
    ∙ (let e = mod-mul-add k 32 (suc n) small in omega (arith, e))

-- and nowhere else
code_elsewhere : (slot word other place code : ℕ) → code < 32 → place * 32 + other ≢ word * 32 + slot → code_in slot word (code_words other place code) ≡ 0
code_elsewhere slot word other place zero small apart = refl
code_elsewhere slot word other place (suc n) small apart =
    let k : ℕ = place * 32 + other in
    ap (code_in slot word) (one_number other place n)
    ∙ ap (λ b. cond b ((k * 32 + suc n) % 32) 0 + 0)
    (ne_eqb ((k * 32 + suc n) / 32) (word * 32 + slot) (λ e. apart (sym (div-mul-add k 32 (suc n) small) ∙ e)))

-- ---- one slot of many words

-- another slot
other_slot : (slot word other n : ℕ) (f : ℕ → ℕ) → ((k : ℕ) → f k < 32) → slot < 32 → other < 32 → slot ≢ other → code_in slot word (slot_words other n f) ≡ 0
other_slot slot word other zero f small inside within apart = refl
other_slot slot word other (suc n) f small inside within apart =
    let before = other_slot slot word other n f small inside within apart in
    let this = code_elsewhere slot word other n (f n) (small n) (λ e. apart (omega (arith, e, inside, within))) in
    code_append slot word (slot_words other n f) (code_words other n (f n)) ∙ omega (arith, before, this)

-- a later word
later_word : (slot word n : ℕ) (f : ℕ → ℕ) → ((k : ℕ) → f k < 32) → n ≤ word → code_in slot word (slot_words slot n f) ≡ 0
later_word slot word zero f small later = refl
later_word slot word (suc n) f small later =
    let before = later_word slot word n f small (omega (arith, later)) in
    let this = code_elsewhere slot word slot n (f n) (small n) (λ e. omega (arith, e, later)) in
    code_append slot word (slot_words slot n f) (code_words slot n (f n)) ∙ omega (arith, before, this)

-- a word that is listed
listed_word : (slot word n : ℕ) (f : ℕ → ℕ) → ((k : ℕ) → f k < 32) → word < n → code_in slot word (slot_words slot n f) ≡ f word
listed_word slot word zero f small inside = absurd (omega (arith, inside))
listed_word slot word (suc n) f small inside =
    code_append slot word (slot_words slot n f) (code_words slot n (f n)) ∙ elim (cases_below word n inside) [
      | inl low ↦
          let before = listed_word slot word n f small low in
          let this = code_elsewhere slot word slot n (f n) (small n) (λ e. omega (arith, e, low)) in
          omega (arith, before, this)
      | inr is ↦
          let before = later_word slot word n f small (omega (arith, is)) in
          let this : code_in slot word (code_words slot n (f n)) ≡ f word = subst (λ k. code_in slot word (code_words slot k (f k)) ≡ f word) is (code_here slot word (f word) (small word)) in
          omega (arith, before, this)
    ]

-- ---- codes are small

bit_small : (b : Bool) (n : ℕ) → cond b n 0 ≤ n
bit_small true n = omega arith
bit_small false n = omega arith

pub line_small : (o : Option BusLine) → line_code o < 32
line_small None = omega arith
line_small (Some l) = let s = bit_small l.store 2 in let o = bit_small l.load 4 in let c = bit_small l.commit 8 in let t = bit_small l.stale 16 in omega (arith, s, o, c, t)

pub spill_small : (o : Option ℕ) → spill_code o < 32
spill_small None = omega arith
spill_small (Some v) = omega arith

pub newest_small : (b : BusState) (a : ℕ) → b.caches ≤ 16 → unit_code (bus_newest b a) < 32
newest_small b a few = elim (least_cases b.caches (is_newest_line b a)) [
  | inl (none, never) ↦ subst (λ o. unit_code o < 32) (sym none) (omega arith)
  | inr (m, is, found) ↦ let below = found.within in subst (λ o. unit_code o < 32) (sym is) (omega (arith, below, few))
]

-- ---- all slots

-- the lines of a unit whose lines aren't among them
other_unit : (n words : ℕ) (b : BusState) (slot word : ℕ) → n ≤ slot → slot < 32 → code_in slot word (lines_words n words b) ≡ 0
other_unit zero words b slot word far inside = refl
other_unit (suc n) words b slot word far inside =
    let before = other_unit n words b slot word (omega (arith, far)) inside in
    let this = other_slot slot word n words (λ a. line_code (b.lines n a)) (λ a. line_small (b.lines n a)) inside (omega (arith, far, inside)) (λ e. omega (arith, e, far)) in
    code_append slot word (lines_words n words b) (slot_words n words (λ a. line_code (b.lines n a))) ∙ omega (arith, before, this)

unit_line : (n words : ℕ) (b : BusState) (u a : ℕ) → n ≤ 16 → u < n → a < words → code_in u a (lines_words n words b) ≡ line_code (b.lines u a)
unit_line zero words b u a few known inside = absurd (omega (arith, known))
unit_line (suc n) words b u a few known inside =
    code_append u a (lines_words n words b) (slot_words n words (λ w. line_code (b.lines n w))) ∙ elim (cases_below u n known) [
      | inl low ↦
          let before = unit_line n words b u a (omega (arith, few)) low inside in
          let this = other_slot u a n words (λ w. line_code (b.lines n w)) (λ w. line_small (b.lines n w)) (omega (arith, few, known)) (omega (arith, few)) (λ e. omega (arith, e, low)) in
          omega (arith, before, this)
      | inr is ↦
          let before = other_unit n words b u a (omega (arith, is)) (omega (arith, few, known)) in
          let this : code_in u a (slot_words n words (λ w. line_code (b.lines n w))) ≡ line_code (b.lines u a) =
          subst (λ v. code_in u a (slot_words v words (λ w. line_code (b.lines v w))) ≡ line_code (b.lines u a)) is
          (listed_word u a words (λ w. line_code (b.lines u w)) (λ w. line_small (b.lines u w)) inside) in
          omega (arith, before, this)
    ]

-- what is listed of a bus
abbrev pub bus_words : (units words : ℕ) → BusState → List ℕ
bus_words units words b = (lines_words units words b ++ newest_words words b) ++ spill_words words b

module _ (units words : ℕ) (b : BusState) (few : units ≤ 16) (caches : b.caches ≤ 16) where
  in_parts : (slot word : ℕ) → code_in slot word (bus_words units words b) ≡ (code_in slot word (lines_words units words b) + code_in slot word (newest_words words b)) + code_in slot word (spill_words words b)
  in_parts slot word =
      code_append slot word (lines_words units words b ++ newest_words words b) (spill_words words b)
      ∙ ap (λ n. n + code_in slot word (spill_words words b)) (code_append slot word (lines_words units words b) (newest_words words b))

  no_newest : (slot word : ℕ) → slot < 32 → slot ≢ newest_slot → code_in slot word (newest_words words b) ≡ 0
  no_newest slot word inside apart = other_slot slot word newest_slot words (λ a. unit_code (bus_newest b a)) (λ a. newest_small b a caches) inside (omega arith) apart

  no_spill : (slot word : ℕ) → slot < 32 → slot ≢ spill_slot → code_in slot word (spill_words words b) ≡ 0
  no_spill slot word inside apart = other_slot slot word spill_slot words (λ a. spill_code (b.spill a)) (λ a. spill_small (b.spill a)) inside (omega arith) apart

  pub line_of : (u a : ℕ) → u < units → a < words → code_in u a (bus_words units words b) ≡ line_code (b.lines u a)
  line_of u a known inside =
      let line = unit_line units words b u a few known inside in
      let newest = no_newest u a (omega (arith, known, few)) (λ e. omega (arith, e, known, few)) in
      let spill = no_spill u a (omega (arith, known, few)) (λ e. omega (arith, e, known, few)) in
      in_parts u a ∙ omega (arith, line, newest, spill)

  pub newest_of : (a : ℕ) → a < words → code_in newest_slot a (bus_words units words b) ≡ unit_code (bus_newest b a)
  newest_of a inside =
      let line = other_unit units words b newest_slot a few (omega arith) in
      let newest = listed_word newest_slot a words (λ w. unit_code (bus_newest b w)) (λ w. newest_small b w caches) inside in
      let spill = no_spill newest_slot a (omega arith) (omega arith) in
      in_parts newest_slot a ∙ omega (arith, line, newest, spill)

  pub spill_of : (a : ℕ) → a < words → code_in spill_slot a (bus_words units words b) ≡ spill_code (b.spill a)
  spill_of a inside =
      let line = other_unit units words b spill_slot a (omega (arith, few)) (omega arith) in
      let newest = no_newest spill_slot a (omega arith) (omega arith) in
      let spill = listed_word spill_slot a words (λ w. spill_code (b.spill w)) (λ w. spill_small (b.spill w)) inside in
      in_parts spill_slot a ∙ omega (arith, line, newest, spill)
