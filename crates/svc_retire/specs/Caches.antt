-- The lines of a list of caches, by unit and word.
use Rattle.std.specs.Prelude.{◌≡◌, ℕ, Option, List, [], length, get_or}
use Rattle.svc_line.specs.Line.{SeenLine}
use Rattle.svc_cache.specs.Places.{CacheValue, line_of}

-- what stands past the last cache
abbrev pub no_cache : CacheValue
no_cache = record { sets = 1; ways = 0; places = [] }

-- the cache of a unit
abbrev pub cache_at : List CacheValue → ℕ → CacheValue
cache_at caches u = get_or caches u no_cache

-- the unit's line of the word
abbrev pub held_line : List CacheValue → ℕ → ℕ → Option SeenLine
held_line caches u a = line_of (cache_at caches u) a

-- each cache has as many sets and ways as before
pub record SameSizes (before after : List CacheValue) : Type 0 where
  pub count : length after ≡ length before
  pub sets : (u : ℕ) → (cache_at after u).sets ≡ (cache_at before u).sets
  pub ways : (u : ℕ) → (cache_at after u).ways ≡ (cache_at before u).ways
