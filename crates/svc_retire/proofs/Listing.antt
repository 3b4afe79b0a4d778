-- How the spill table's places and the list of its words change together.
use Rattle.std.proofs.Common.{◌≡◌, ◌∙◌, refl, sym, ap, subst, ℕ, zero, suc, ◌+◌, ◌<◌, true, false, Option, None, List, [], ◌∷◌, length, get_or, set, replicate, inl, inr, arith, length-set, get_or-set_same, get_or-set_other, eq-eqb, true≢false}
use Rattle.std.specs.Bool.{◌==◌}
use Rattle.std.specs.Prelude.{map}
use Rattle.std.proofs.lemmas.Bool.{cases_eq}
use Rattle.std.proofs.lemmas.List.{length-replicate, length-map}
use Rattle.svc_bus_laws.specs.Search.{how_many}
use Rattle.svc_bus_laws.proofs.Searches.{any_same, any_found}
use Rattle.svc_retire.specs.declared.spill.SpillPlace.{SpillPlace}
use Rattle.svc_retire.specs.declared.spill.SpillPlace.TheVariants.{Unlisted}
use Rattle.svc_retire.specs.Spills.{spilled_version, is_listed, place_at, is_among, IsListed}
use Rattle.svc_retire.proofs.Counts.{how_many_same, how_many_room, how_many_more, how_many_none}

-- a place that is no more and no less in the list
same_listing : (places : List SpillPlace) (at : ℕ) (new : SpillPlace) → at < length places → is_listed new ≡ is_listed (place_at places at) → (word : ℕ) → is_listed (place_at (set places at new) word) ≡ is_listed (place_at places word)
same_listing places at new h same word = elim (cases_eq word at) [
  | inl e ↦ rw e (ap is_listed (get_or-set_same places at new Unlisted h) ∙ same)
  | inr ne ↦ ap is_listed (get_or-set_other places at word new Unlisted ne)
]

pub kept_list : (places : List SpillPlace) (words : List ℕ) (count at : ℕ) (new : SpillPlace) → at < length places → is_listed new ≡ is_listed (place_at places at) → IsListed places words count → IsListed (set places at new) words count
kept_list places words count at new h same list =
    let size : length (set places at new) ≡ length places = length-set places at new in
    record {
      room = list.room ∙ sym size;
      counted = list.counted ∙ sym (ap (λ n. how_many n (λ word. is_listed (place_at (set places at new) word))) size ∙ how_many_same (length places) (λ word. is_listed (place_at places word)) (λ word. is_listed (place_at (set places at new) word)) (λ word below. same_listing places at new h same word));
      within = λ k below. let low = list.within k below in omega (arith, low, size);
      listed = λ word is. list.listed word (sym (same_listing places at new h same word) ∙ is);
    }

-- there is room in the list for a word that is not in it
pub list_room : (places : List SpillPlace) (words : List ℕ) (count at : ℕ) → at < length places → is_listed (place_at places at) ≡ false → IsListed places words count → count < length words
list_room places words count at h out list =
    let few = how_many_room (length places) (λ word. is_listed (place_at places word)) at h out in
    let counted = list.counted in
    let room = list.room in
    omega (arith, few, counted, room)

-- a word that was not in the list goes last
pub longer_list : (places : List SpillPlace) (words : List ℕ) (count at : ℕ) (new : SpillPlace) → at < length places → is_listed (place_at places at) ≡ false → is_listed new ≡ true → IsListed places words count → IsListed (set places at new) (set words count at) (count + 1)
longer_list places words count at new h out in_list list =
    let size : length (set places at new) ≡ length places = length-set places at new in
    record {
      room = length-set words count at ∙ list.room ∙ sym size;
      counted = ap (λ n. n + 1) list.counted ∙ sym (ap (λ n. how_many n (λ word. is_listed (place_at (set places at new) word))) size ∙ more);
      within = λ k below. rw size (seated k below);
      listed = listed;
    }
  where
    here : count < length words
    here = list_room places words count at h out list

    more : how_many (length places) (λ word. is_listed (place_at (set places at new) word)) ≡ how_many (length places) (λ word. is_listed (place_at places word)) + 1
    more = how_many_more (length places) (λ word. is_listed (place_at places word)) (λ word. is_listed (place_at (set places at new) word)) at h out
        (ap is_listed (get_or-set_same places at new Unlisted h) ∙ in_list)
        (λ word ne. ap is_listed (get_or-set_other places at word new Unlisted ne))

    seated : (k : ℕ) → k < count + 1 → get_or (set words count at) k 0 < length places
    seated k below = elim (cases_eq k count) [
      | inl e ↦ rw (e, get_or-set_same words count at 0 here) h
      | inr ne ↦ rw (get_or-set_other words count k at 0 ne) (list.within k (omega (arith, below, ne)))
    ]

    before : (word : ℕ) → is_among (set words count at) count word ≡ is_among words count word
    before word = any_same count _ _ (λ k low. ap (λ n. n == word) (get_or-set_other words count k at 0 (omega (arith, low))))

    last : (word : ℕ) → word ≡ at → (get_or (set words count at) count 0 == word) ≡ true
    last word e = eq-eqb _ word (get_or-set_same words count at 0 here ∙ sym e)

    listed : (word : ℕ) → is_listed (place_at (set places at new) word) ≡ true → is_among (set words count at) (count + 1) word ≡ true
    listed word is = elim (cases_eq word at) [
      | inl e ↦ any_found (count + 1) (λ k. get_or (set words count at) k 0 == word) count (omega arith) (last word e)
      | inr ne ↦ longer (list.listed word (sym (ap is_listed (get_or-set_other places at word new Unlisted ne)) ∙ is))
    ]
      where
        longer : is_among words count word ≡ true → is_among (set words count at) (count + 1) word ≡ true
        longer among = subst (λ n. is_among (set words count at) n word ≡ true) (let e : suc count ≡ count + 1 = omega arith in e) (rw (before word, among))

-- no place is in the list
pub empty_list : (words : List ℕ) (size : ℕ) → length words ≡ size → IsListed (replicate size Unlisted) words 0
empty_list words size room = record {
  room = room ∙ sym (length-replicate size Unlisted);
  counted = sym (how_many_none _ _ (λ word below. ap is_listed (unlisted word)));
  within = λ k below. absurd (omega (arith, below));
  listed = λ word is. absurd (true≢false (sym is ∙ ap is_listed (unlisted word)));
}
  where
    unlisted : (word : ℕ) → place_at (replicate size Unlisted) word ≡ Unlisted
    unlisted word = any_place size word
      where
        any_place : (n w : ℕ) → get_or (replicate n Unlisted) w Unlisted ≡ Unlisted
        any_place zero w = refl
        any_place (suc n) zero = refl
        any_place (suc n) (suc w) = any_place n w

-- and no word is spilled
pub empty_view : (size : ℕ) → map spilled_version (replicate size Unlisted) ≡ replicate size None
empty_view zero = refl
empty_view (suc n) = ap (λ (rest : List (Option ℕ)). None ∷ rest) (empty_view n)

-- a word of the table has a place
pub places_known : (places : List SpillPlace) (table : List (Option ℕ)) (word : ℕ) → map spilled_version places ≡ table → word < length table → word < length places
places_known places table word view h = omega (arith, h, ap (λ (t : List (Option ℕ)). length t) view, length-map places spilled_version)

-- what an index reads is the item, whatever stands past the end
pub read_item : {A : Type 0} (xs : List A) (i : ℕ) (x d : A) → x ≡ get_or xs i x → i < length xs → get_or xs i d ≡ x
read_item [] i x d e h = absurd (omega (arith, h))
read_item (y ∷ ys) zero x d e h = sym e
read_item (y ∷ ys) (suc i) x d e h = read_item ys i x d e (omega (arith, h))

pub place_read : (places : List SpillPlace) (word : ℕ) (place : SpillPlace) → place ≡ get_or places word place → word < length places → false ≡ is_listed place → is_listed (place_at places word) ≡ false
place_read places word place e h out = ap is_listed (read_item places word place Unlisted e h) ∙ sym out

pub place_listed : (places : List SpillPlace) (word : ℕ) (place : SpillPlace) → place ≡ get_or places word place → word < length places → true ≡ is_listed place → true ≡ is_listed (place_at places word)
place_listed places word place e h into = into ∙ sym (ap is_listed (read_item places word place Unlisted e h))
