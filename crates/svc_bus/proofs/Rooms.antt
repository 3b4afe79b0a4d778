-- The look-ups of a request can be counted: a bus has few caches, and their sets have few ways.
use Rattle.std.proofs.Common.{◌≡◌, sym, subst, ℕ, suc, ◌+◌, ◌*◌, ◌<◌, ◌≤◌, List, [], ◌∷◌, length, arith}
use Rattle.std.proofs.lemmas.List.Sums.{sum_by-cons}
use Rattle.svc_base.specs.declared.config.TheConstants.{MAX_WAYS}
use Rattle.svc_cache.specs.Places.{CacheValue}
use Rattle.svc_cache.specs.declared.probes.Probes.{Probes}
use Rattle.svc_vol.specs.Lines.{HasRoomForEach, ways_in}
use Rattle.svc_retire.specs.Caches.{cache_at}
use Rattle.svc_bus.specs.Value.{BusValue, IsSoundBus}

-- all caches' sets together have few places
pub few_places : (caches : List CacheValue) → ((u : ℕ) → u < length caches → (cache_at caches u).ways ≤ MAX_WAYS) → ways_in caches ≤ MAX_WAYS * length caches
few_places [] few = omega arith
few_places (c ∷ cs) few =
    let first : c.ways ≤ MAX_WAYS = few 0 (omega arith) in
    let rest : ways_in cs ≤ MAX_WAYS * length cs = few_places cs (λ u h. few (suc u) (omega (arith, h))) in
    let all : ways_in (c ∷ cs) ≡ c.ways + ways_in cs = sum_by-cons (λ (cache : CacheValue). cache.ways) c cs in
    omega (arith, first, rest, all)

-- each cache of a bus has few ways
pub ways_few : (b : BusValue) → IsSoundBus b → (u : ℕ) → u < length b.caches → (cache_at b.caches u).ways ≤ MAX_WAYS
ways_few b sound u known = subst (λ n. n ≤ MAX_WAYS) (sym (sound.one_width u known)) sound.few_ways

-- so all of them together have at most 64 places to search
pub places_few : (b : BusValue) → IsSoundBus b → ways_in b.caches ≤ 64
places_few b sound =
    let all : ways_in b.caches ≤ MAX_WAYS * length b.caches = few_places b.caches (ways_few b sound) in
    let few = sound.few_caches in
    omega (arith, all, few)

-- and a search of each can be counted anew
pub room_for_each : (b : BusValue) → IsSoundBus b → (probes : Probes) (caches : List CacheValue) → probes.searches ≡ 0 → probes.places ≡ 0 → caches ≡ b.caches → HasRoomForEach probes caches
room_for_each b sound probes caches none nowhere same =
    let places : ways_in b.caches ≤ 64 = places_few b sound in
    let few = sound.few_caches in
    subst (HasRoomForEach probes) (sym same) (record { searches = omega (arith, few, none); places = omega (arith, places, nowhere) })
