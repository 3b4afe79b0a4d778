-- The spill table's words are taken up one by one: each spilled version goes to the memory, and its place is emptied.
use Rattle.std.proofs.Common.{◌≡◌, ◌≢◌, ◌∙◌, refl, sym, ap, subst, ℕ, zero, suc, ◌+◌, ◌<◌, Bool, true, false, cond, Option, Some, None, List, [], ◌∷◌, length, get_or, set, replicate, unwrap_or, inl, inr, arith, length-set, get_or-set_same, get_or-set_other, eq-eqb, ne_eqb, true≢false}
use Rattle.std.specs.Prelude.{map}
use Rattle.std.proofs.lemmas.Bool.{cases_Bool, cases_eq}
use Rattle.std.proofs.lemmas.List.{length-map}
use Rattle.svc_retire.specs.declared.spill.SpillPlace.{SpillPlace}
use Rattle.svc_retire.specs.declared.spill.SpillPlace.TheVariants.{Unlisted, Emptied, Spilled}
use Rattle.svc_retire.specs.Memory.{with_version}
use Rattle.svc_retire.specs.Spills.{spilled_version, is_listed, place_at, is_among, IsListed}
use Rattle.svc_retire.proofs.Bools.{or_true, or_false}
use Rattle.svc_retire.proofs.Counts.{how_many_within}

-- the memory's word, over which a version has gone
abbrev pub memory_after : Bool → Option ℕ → ℕ → ℕ
memory_after taken version word = cond taken (unwrap_or version word) word

-- the first so many words of the list were taken up
pub record IsEmptied (words : List ℕ) (count : ℕ) (before now : List SpillPlace) (memory_before memory_now : List ℕ) : Type 0 where
  pub size : length now ≡ length before
  pub memory_size : length memory_now ≡ length memory_before
  pub places : (word : ℕ) → place_at now word ≡ cond (is_among words count word) Unlisted (place_at before word)
  pub memory : (word : ℕ) → get_or memory_now word 0 ≡ memory_after (is_among words count word) (spilled_version (place_at before word)) (get_or memory_before word 0)

pub emptying_begins : (words : List ℕ) (places : List SpillPlace) (memory : List ℕ) → IsEmptied words 0 places places memory memory
emptying_begins words places memory = record { size = refl; memory_size = refl; places = λ word. refl; memory = λ word. refl }

-- a word of the memory after a version of it
pub version_same : (memory : List ℕ) (word : ℕ) (version : Option ℕ) → word < length memory → get_or (with_version memory word version) word 0 ≡ unwrap_or version (get_or memory word 0)
version_same memory word None h = refl
version_same memory word (Some value) h = get_or-set_same memory word value 0 h

pub version_other : (memory : List ℕ) (word other : ℕ) (version : Option ℕ) → other ≢ word → get_or (with_version memory word version) other 0 ≡ get_or memory other 0
version_other memory word other None ne = refl
version_other memory word other (Some value) ne = get_or-set_other memory word other value 0 ne

version_size : (memory : List ℕ) (word : ℕ) (version : Option ℕ) → length (with_version memory word version) ≡ length memory
version_size memory word None = refl
version_size memory word (Some value) = length-set memory word value

-- a version that was taken up goes over the word once
taken_once : (taken : Bool) (before : SpillPlace) (now : SpillPlace) (word : ℕ) → now ≡ cond taken Unlisted before → unwrap_or (spilled_version now) (memory_after taken (spilled_version before) word) ≡ unwrap_or (spilled_version before) word
taken_once true before now word e = rw e
taken_once false before now word e = rw e

pub emptying_steps : (words : List ℕ) (k at : ℕ) (before now : List SpillPlace) (memory_before memory_now : List ℕ) → get_or words k 0 ≡ at → at < length now → at < length memory_now
    → IsEmptied words k before now memory_before memory_now
    → IsEmptied words (k + 1) before (set now at Unlisted) memory_before (with_version memory_now at (spilled_version (place_at now at)))
emptying_steps words k at before now memory_before memory_now is within in_memory done = record {
  size = length-set now at Unlisted ∙ done.size;
  memory_size = version_size memory_now at (spilled_version (place_at now at)) ∙ done.memory_size;
  places = λ word. subst (λ n. place_at (set now at Unlisted) word ≡ cond (is_among words n word) Unlisted (place_at before word)) next (placed word);
  memory = λ word. subst (λ n. get_or (with_version memory_now at (spilled_version (place_at now at))) word 0 ≡ memory_after (is_among words n word) (spilled_version (place_at before word)) (get_or memory_before word 0)) next (stored word);
}
  where
    next : suc k ≡ k + 1
    next = omega arith

    here : (word : ℕ) → word ≡ at → is_among words (suc k) word ≡ true
    here word e = or_true (is_among words k word) _ (eq-eqb (get_or words k 0) word (is ∙ sym e))

    there : (word : ℕ) → word ≢ at → is_among words (suc k) word ≡ is_among words k word
    there word ne = or_false (is_among words k word) _ (ne_eqb (get_or words k 0) word (λ e. ne (sym e ∙ is)))

    placed : (word : ℕ) → place_at (set now at Unlisted) word ≡ cond (is_among words (suc k) word) Unlisted (place_at before word)
    placed word = elim (cases_eq word at) [
      | inl e ↦ ap (place_at (set now at Unlisted)) e ∙ get_or-set_same now at Unlisted Unlisted within ∙ sym (ap (λ x. cond x Unlisted (place_at before word)) (here word e))
      | inr ne ↦ get_or-set_other now at word Unlisted Unlisted ne ∙ done.places word ∙ sym (ap (λ x. cond x Unlisted (place_at before word)) (there word ne))
    ]

    stored : (word : ℕ) → get_or (with_version memory_now at (spilled_version (place_at now at))) word 0 ≡ memory_after (is_among words (suc k) word) (spilled_version (place_at before word)) (get_or memory_before word 0)
    stored word = elim (cases_eq word at) [
      | inl e ↦
          ap (λ w. get_or (with_version memory_now at (spilled_version (place_at now at))) w 0) e
          ∙ version_same memory_now at (spilled_version (place_at now at)) in_memory
          ∙ ap (unwrap_or (spilled_version (place_at now at))) (done.memory at)
          ∙ taken_once (is_among words k at) (place_at before at) (place_at now at) (get_or memory_before at 0) (done.places at)
          ∙ ap (λ w. unwrap_or (spilled_version (place_at before w)) (get_or memory_before w 0)) (sym e)
          ∙ sym (ap (λ x. memory_after x (spilled_version (place_at before word)) (get_or memory_before word 0)) (here word e))
      | inr ne ↦
          version_other memory_now at word (spilled_version (place_at now at)) ne
          ∙ done.memory word
          ∙ sym (ap (λ x. memory_after x (spilled_version (place_at before word)) (get_or memory_before word 0)) (there word ne))
    ]

-- a place that is not in the list has no version
unlisted_empty : (place : SpillPlace) → is_listed place ≡ false → spilled_version place ≡ None
unlisted_empty Unlisted e = refl
unlisted_empty Emptied e = absurd (true≢false e)
unlisted_empty (Spilled value) e = absurd (true≢false e)

unlisted_is : (place : SpillPlace) → is_listed place ≡ false → place ≡ Unlisted
unlisted_is Unlisted e = refl
unlisted_is Emptied e = absurd (true≢false e)
unlisted_is (Spilled value) e = absurd (true≢false e)

-- a list whose places are all unlisted
all_unlisted : (places : List SpillPlace) → ((word : ℕ) → place_at places word ≡ Unlisted) → places ≡ replicate (length places) Unlisted
all_unlisted [] each = refl
all_unlisted (place ∷ places) each = ap (λ (p : SpillPlace). p ∷ places) (each 0) ∙ ap (λ (rest : List SpillPlace). Unlisted ∷ rest) (all_unlisted places (λ word. each (suc word)))

-- all words of the list were taken up
pub all_emptied : (words : List ℕ) (count : ℕ) (before now : List SpillPlace) (memory_before memory_now : List ℕ) → IsListed before words count → IsEmptied words count before now memory_before memory_now → now ≡ replicate (length before) Unlisted
all_emptied words count before now memory_before memory_now list done = all_unlisted now each ∙ ap (λ n. replicate n Unlisted) done.size
  where
    each : (word : ℕ) → place_at now word ≡ Unlisted
    each word = done.places word ∙ elim (cases_Bool (is_listed (place_at before word))) [
      | inl in_list ↦ ap (λ x. cond x Unlisted (place_at before word)) (list.listed word in_list)
      | inr out ↦ either (is_among words count word) (unlisted_is (place_at before word) out)
    ]
      where
        either : (x : Bool) → place_at before word ≡ Unlisted → cond x Unlisted (place_at before word) ≡ Unlisted
        either true e = refl
        either false e = e

pub all_stored : (words : List ℕ) (count : ℕ) (before now : List SpillPlace) (memory_before memory_now : List ℕ) → IsListed before words count → IsEmptied words count before now memory_before memory_now → (word : ℕ) → get_or memory_now word 0 ≡ unwrap_or (spilled_version (place_at before word)) (get_or memory_before word 0)
all_stored words count before now memory_before memory_now list done word = done.memory word ∙ elim (cases_Bool (is_listed (place_at before word))) [
  | inl in_list ↦ ap (λ x. memory_after x (spilled_version (place_at before word)) (get_or memory_before word 0)) (list.listed word in_list)
  | inr out ↦ either (is_among words count word) (spilled_version (place_at before word)) (unlisted_empty (place_at before word) out)
]
  where
    either : (x : Bool) (version : Option ℕ) → version ≡ None → memory_after x version (get_or memory_before word 0) ≡ unwrap_or version (get_or memory_before word 0)
    either true version e = refl
    either false version e = rw e

-- a version in the table is that of its place
pub view_at : (places : List SpillPlace) (table : List (Option ℕ)) → map spilled_version places ≡ table → (word : ℕ) → get_or table word None ≡ spilled_version (place_at places word)
view_at places table view word = ap (λ (t : List (Option ℕ)). get_or t word None) (sym view) ∙ go places word
  where
    go : (ps : List SpillPlace) (w : ℕ) → get_or (map spilled_version ps) w None ≡ spilled_version (place_at ps w)
    go [] w = refl
    go (p ∷ ps) zero = refl
    go (p ∷ ps) (suc w) = go ps w

-- the word that is taken up next is in the list, and has a place and a word of the memory
pub record IsNext (words : List ℕ) (k : ℕ) (places : List SpillPlace) (memory : List ℕ) : Type 0 where
  pub seated : k < length words
  pub placed : get_or words k 0 < length places
  pub stored : get_or words k 0 < length memory

pub next_word : (words : List ℕ) (count k : ℕ) (before now : List SpillPlace) (memory_before memory_now : List ℕ) (table : List (Option ℕ)) → IsListed before words count → IsEmptied words k before now memory_before memory_now → k < count → map spilled_version before ≡ table → length memory_before ≡ length table → IsNext words k now memory_now
next_word words count k before now memory_before memory_now table list done more view size =
    let counted = list.counted in
    let few = how_many_within (length before) (λ word. is_listed (place_at before word)) in
    let room = list.room in
    let low = list.within k more in
    let same = done.size in
    let memory = done.memory_size in
    let known = ap (λ (t : List (Option ℕ)). length t) view in
    record {
      seated = omega (arith, counted, few, room, more);
      placed = omega (arith, low, same);
      stored = omega (arith, low, memory, known, size, length-map before spilled_version);
    }
