-- The same elements in another order.
use Rattle.std.proofs.Common.{ℕ, zero, suc, ◌≡◌, ◌<◌, List, [], ◌∷◌, length, Some, refl, sym, ap, ◌∙◌, subst, slice_get, IsPermutation, swap, inl, inr, true≢false}
use Rattle.std.specs.List.{AllByRecursion, Contains}
use Rattle.std.specs.List.Sorted.{IsSortedByKey}
use Rattle.std.specs.Cmp.Lexicographic.{slice_cmp}
use Rattle.std.specs.Ordering.{is_lt, nat_cmp}
use Rattle.std.proofs.lemmas.Cmp.{nat_list_cmp_total}
use Rattle.std.proofs.lemmas.List.Edits.{length-swap}
use Rattle.std.proofs.lemmas.List.Sorted.{Contains-permutation, IsPermutation-keeps, IsPermutation-map, IsPermutation-sym, ranks_by, sorted_far}
use Rattle.std.proofs.lemmas.Option.{get_or_from_slice_get, none-some, same_Some, slice_get_read, slice_get_within}
use Rattle.indexmap.proofs.ReorderLemmas.{exchange, exchange-twice, exchange-within, get_or-swap}
use Rattle.svc_base.specs.declared.config.Config.{Config}
use Rattle.svc_image.specs.Image.{Image}
use Rattle.svc_history_laws.specs.declared.entry.Entry.{Entry}
use Rattle.svc_machine_laws.specs.Standing.{Standing, opened_at}
use Rattle.svc_explore_laws.specs.declared.observation.Observation.{Observation}
use Rattle.svc_explore_laws.specs.Closed.{AreIn, IsIn, ShowNothingElse, ShowsFound}
use Rattle.svc_explore_laws.specs.Moves.{Plays}
use Rattle.svc_renaming_laws.specs.ClosedUpToNames.{AllExplored, IsClosedUpToNames}
use Rattle.svc_explore.specs.KeyWords.{HasKey}
use Rattle.svc_explore.specs.declared.found.Seen.{Seen}
use Rattle.svc_explore.specs.Found.{AreOnce, AreWitnessed, IsShown, are_seen}
use Rattle.svc_observations.specs.Order.{AreInOrder, places_of}
use Rattle.svc_explore.proofs.Exploring.{all_at}

-- ---- lists that hold the same

contains_in : {A : Type 0} (x : A) (xs : List A) → IsIn x xs → Contains xs x
contains_in x xs h = (h.0, slice_get_within xs h.0 x h.1, get_or_from_slice_get xs h.0 x x h.1)

in_contains : {A : Type 0} (x : A) (xs : List A) → Contains xs x → IsIn x xs
in_contains x xs h = (h.0, slice_get_read xs (length xs) h.0 x refl h.1 (sym h.2))

pub in_permuted : {A : Type 0} (x : A) (xs ys : List A) → IsPermutation xs ys → IsIn x xs → IsIn x ys
in_permuted x xs ys same h = in_contains x ys (Contains-permutation xs ys x same (contains_in x xs h))

swapped_get : {A : Type 0} (l : List A) (a b i : ℕ) (x : A) → a < length l → b < length l → slice_get (swap l a b) i ≡ Some x → slice_get l (exchange a b i) ≡ Some x
swapped_get l a b i x p q h =
    let inside : i < length l = subst (λ n. i < n) (length-swap l a b) (slice_get_within (swap l a b) i x h) in
    slice_get_read l (length l) (exchange a b i) x refl (exchange-within a b (length l) i p q inside)
    (sym (sym (get_or-swap l a b x p q i) ∙ get_or_from_slice_get (swap l a b) i x x h))

swapped_once : {A : Type 0} (l : List A) (a b : ℕ) → a < length l → b < length l → AreOnce l → AreOnce (swap l a b)
swapped_once l a b p q once i j x h k =
    let same = once (exchange a b i) (exchange a b j) x (swapped_get l a b i x p q h) (swapped_get l a b j x p q k) in
    sym (exchange-twice a b i) ∙ ap (exchange a b) same ∙ exchange-twice a b j

once_permuted : {A : Type 0} (xs ys : List A) → IsPermutation xs ys → AreOnce xs → AreOnce ys
once_permuted xs ys same once = IsPermutation-keeps xs AreOnce once (λ l i j p q h. swapped_once l i j p q h) ys same

pub all_get : {A : Type 0} (P : A → Type 0) (xs : List A) → AllByRecursion P xs → (i : ℕ) (x : A) → slice_get xs i ≡ Some x → P x
all_get P [] all i x h = absurd (none-some x h)
all_get P (y ∷ ys) all zero x h = subst P (same_Some y x h) all.0
all_get P (y ∷ ys) all (suc i) x h = all_get P ys all.1 i x h

all_permuted : {A : Type 0} (P : A → Type 0) (xs ys : List A) → IsPermutation xs ys → AllByRecursion P xs → AllByRecursion P ys
all_permuted P xs ys same all = all_at ys P (λ i x h. let there = in_permuted x ys xs (IsPermutation-sym xs ys same) (i, h) in all_get P xs all there.0 x there.1)

-- ---- what was seen, in another order

pub seen_permuted : (old new : List Seen) → IsPermutation old new → IsPermutation (are_seen old) (are_seen new)
seen_permuted old new same = IsPermutation-map (λ (s : Seen). s.what) old new same

pub witnessed_permuted : (img : Image) (config : Config) (most : ℕ) (old new : List Seen) → IsPermutation old new → AreWitnessed img config most old → AreWitnessed img config most new
witnessed_permuted img config most old new same is = record {
  once = once_permuted (are_seen old) (are_seen new) (seen_permuted old new same) is.once;
  shown = all_permuted (IsShown img config most) old new same is.shown;
}

-- each of the first list is in the second
module _ (found others : List Observation) (moved : (o : Observation) → IsIn o found → IsIn o others) where
  all_moved : (os : List Observation) → AreIn os found → AreIn os others
  all_moved [] are = tt
  all_moved (o ∷ os) are = (moved o are.0, all_moved os are.1)

  pub shows_moved : (img : Image) (config : Config) (most : ℕ) (s : Standing) (es : List Entry) (play : Plays img config most s es)
      → ShowsFound img config most found s es play → ShowsFound img config most others s es play
  shows_moved img config most s [] play h = tt
  shows_moved img config most s (e ∷ es) play h = (all_moved _ h.0, shows_moved img config most play.0 es play.2 h.1)

  pub closed_moved : (img : Image) (config : Config) (most : ℕ) (keys : List (List ℕ)) → IsClosedUpToNames img config most (HasKey img config) keys found
      → IsClosedUpToNames img config most (HasKey img config) keys others
  closed_moved img config most keys is = record {
    opening = is.opening;
    each = λ k there. let e : AllExplored img config most (HasKey img config) keys found k = is.each k there in record {
      standing = e.standing;
      reached = e.reached;
      has_key = e.has_key;
      room = e.room;
      move = λ unit known. elim (e.move unit known) [
        | inl none ↦ inl none
        | inr goes ↦ inr (record { event = goes.event; moves = goes.moves; found_is = all_moved _ goes.found_is; key = goes.key; has_key = goes.has_key; listed = goes.listed })
      ];
    };
  }

-- the same of lists in another order
module _ (img : Image) (config : Config) (most : ℕ) (old new : List Seen) (same : IsPermutation old new) where
  there : (o : Observation) → IsIn o (are_seen old) → IsIn o (are_seen new)
  there o h = in_permuted o (are_seen old) (are_seen new) (seen_permuted old new same) h

  pub nothing_else_permuted : ShowNothingElse img config most (are_seen old) → ShowNothingElse img config most (are_seen new)
  nothing_else_permuted h es play = shows_moved (are_seen old) (are_seen new) there img config most (opened_at img config 0) es play (h es play)

  pub closed_permuted : (keys : List (List ℕ)) → IsClosedUpToNames img config most (HasKey img config) keys (are_seen old)
      → IsClosedUpToNames img config most (HasKey img config) keys (are_seen new)
  closed_permuted keys h = closed_moved (are_seen old) (are_seen new) there img config most keys h

-- ---- what a sort by the places leaves

seen_at : (xs : List Seen) (i : ℕ) (o : Observation) → slice_get (are_seen xs) i ≡ Some o → (s : Seen) × (slice_get xs i ≡ Some s) × (s.what ≡ o)
seen_at [] i o h = absurd (none-some o h)
seen_at (x ∷ xs) zero o h = (x, refl, same_Some x.what o h)
seen_at (x ∷ xs) (suc i) o h = seen_at xs i o h

abbrev places_seen : Seen → List ℕ
places_seen s = places_of s.what

pub ordered : (xs : List Seen) → IsSortedByKey places_seen (slice_cmp nat_cmp) xs → AreInOrder (are_seen xs)
ordered xs up i j o p before h k less =
    let s = seen_at xs i o h in
    let t = seen_at xs j p k in
    let far = sorted_far (λ (x y : Seen). is_lt (slice_cmp nat_cmp (places_seen x) (places_seen y))) (ranks_by nat_list_cmp_total places_seen) xs up
    i j s.0 (omega (Rattle.std.proofs.Common.arith, before)) (slice_get_within xs j t.0 t.1) in
    let one : Rattle.std.proofs.Common.get_or xs i s.0 ≡ s.0 = get_or_from_slice_get xs i s.0 s.0 s.1 in
    let other : Rattle.std.proofs.Common.get_or xs j s.0 ≡ t.0 = get_or_from_slice_get xs j t.0 s.0 t.1 in
    true≢false (sym less ∙ ap (λ q. is_lt (slice_cmp nat_cmp (places_of q) (places_of o))) (sym t.2)
    ∙ ap (λ q. is_lt (slice_cmp nat_cmp (places_seen t.0) (places_of q))) (sym s.2)
    ∙ sym (λ n. is_lt (slice_cmp nat_cmp (places_seen (other n)) (places_seen (one n)))) ∙ far)
