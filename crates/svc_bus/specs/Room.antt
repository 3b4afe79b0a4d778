-- Whether a unit's cache has room for a line of a word.
use Rattle.std.specs.Prelude.{ℕ, Option, List}
use Rattle.svc_cache.specs.Lines.{full_address}
use Rattle.svc_cache.specs.Places.{CacheValue, line_of}
use Rattle.svc_retire.specs.Caches.{cache_at}

-- the word to replace first, if the unit's cache has no line of the word and no room for one; no line lies past the
-- bound
abbrev pub full_in : List CacheValue → (unit bound word : ℕ) → Option ℕ
full_in caches unit bound word =
    full_address (cache_at caches unit).sets (cache_at caches unit).ways bound (line_of (cache_at caches unit)) word
