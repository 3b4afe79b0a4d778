-- The caches of an opened bus.
use Rattle.std.specs.Prelude.{◌≡◌, ℕ, ◌<◌, None, List, length}
use Rattle.svc_cache.specs.Places.{CacheValue}
use Rattle.svc_retire.specs.Caches.{cache_at, held_line}

-- caches of one size, without lines
pub record AreEmpty (caches : List CacheValue) (sets ways : ℕ) : Type 0 where
  pub sets_are : (u : ℕ) → u < length caches → (cache_at caches u).sets ≡ sets
  pub ways_are : (u : ℕ) → u < length caches → (cache_at caches u).ways ≡ ways
  pub lines : (u a : ℕ) → held_line caches u a ≡ None
