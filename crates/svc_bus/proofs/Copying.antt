-- One list of caches becomes another one of the same sizes, cache by cache.
use Rattle.std.proofs.Common.{ℕ, ◌≡◌, ◌⊎◌, ◌+◌, ◌<◌, ◌≤◌, ◌∙◌, List, get_or, set, length, length-set, get_or-set_other, inl, inr, arith, sym, ap}
use Rattle.std.proofs.lemmas.List.{same_lists}
use Rattle.std.proofs.lemmas.Bool.{cases_eq}
use Rattle.std.proofs.lemmas.Grind.{get_or-set_at}
use Rattle.svc_cache.specs.Places.{CacheValue}
use Rattle.svc_retire.specs.Caches.{no_cache, cache_at}
use Rattle.svc_bus.specs.Value.{BusValue, IsSoundBus, state_in}
use Rattle.svc_bus.specs.Sizes.{AreOfOneSize}

-- the first so many caches are the others', and all have their sizes
pub record IsCopied (now others : List CacheValue) (count : ℕ) : Type 0 where
  pub size : length now ≡ length others
  pub copied : (u : ℕ) (d : CacheValue) → u < count → get_or now u d ≡ get_or others u d
  pub sets : (u : ℕ) → u < length others → (cache_at now u).sets ≡ (cache_at others u).sets
  pub ways : (u : ℕ) → u < length others → (cache_at now u).ways ≡ (cache_at others u).ways

pub copy_begins : (now others : List CacheValue) → length now ≡ length others
    → ((u : ℕ) → u < length others → (cache_at now u).sets ≡ (cache_at others u).sets)
    → ((u : ℕ) → u < length others → (cache_at now u).ways ≡ (cache_at others u).ways) → IsCopied now others 0
copy_begins now others size sets ways = record { size = size; copied = λ u d low. absurd (omega (arith, low)); sets = sets; ways = ways }

below_more : (k n : ℕ) → k < n + 1 → (k < n) ⊎ (k ≡ n)
below_more k n h = grind arith

module _ (now others : List CacheValue) (count : ℕ) (new : CacheValue) (inside : count < length others)
    (is : (d : CacheValue) → new ≡ get_or others count d) (h : IsCopied now others count) where
  at_count : (u : ℕ) (d : CacheValue) → u ≡ count → get_or (set now count new) u d ≡ get_or others u d
  at_count u d same =
      let size = h.size in
      get_or-set_at now count u new d same (omega (arith, inside, size)) ∙ is d ∙ ap (λ k. get_or others k d) (sym same)

  pub copy_steps : IsCopied (set now count new) others (count + 1)
  copy_steps = record {
    size = length-set now count new ∙ h.size;
    copied = λ u d low. elim (below_more u count low) [
      | inl less ↦ get_or-set_other now count u new d (omega (arith, less)) ∙ h.copied u d less
      | inr same ↦ at_count u d same
    ];
    sets = λ u within. elim (cases_eq u count) [
      | inl same ↦ ap (λ (cache : CacheValue). cache.sets) (at_count u no_cache same)
      | inr other ↦ ap (λ (cache : CacheValue). cache.sets) (get_or-set_other now count u new no_cache other) ∙ h.sets u within
    ];
    ways = λ u within. elim (cases_eq u count) [
      | inl same ↦ ap (λ (cache : CacheValue). cache.ways) (at_count u no_cache same)
      | inr other ↦ ap (λ (cache : CacheValue). cache.ways) (get_or-set_other now count u new no_cache other) ∙ h.ways u within
    ];
  }

pub copy_ends : (now others : List CacheValue) (count : ℕ) → length others ≤ count → IsCopied now others count → now ≡ others
copy_ends now others count all h =
    let size = h.size in
    same_lists now others size (λ u d low. h.copied u d (omega (arith, low, all, size)))

-- the caches of two sound buses of one size
module _ (b c : BusValue) (first : IsSoundBus b) (second : IsSoundBus c) (size : AreOfOneSize (state_in b) (state_in c)) where
  pub sets_same : (u : ℕ) → u < length c.caches → (cache_at b.caches u).sets ≡ (cache_at c.caches u).sets
  sets_same u within = let n = size.caches in first.one_size u (omega (arith, within, n)) ∙ size.sets ∙ sym (second.one_size u within)

  pub ways_same : (u : ℕ) → u < length c.caches → (cache_at b.caches u).ways ≡ (cache_at c.caches u).ways
  ways_same u within = let n = size.caches in first.one_width u (omega (arith, within, n)) ∙ size.ways ∙ sym (second.one_width u within)

  pub spills_same : length b.spill ≡ length c.spill
  spills_same = first.spills ∙ size.words ∙ sym second.spills
