-- What holds of every cache.
use Rattle.std.specs.Prelude.{◌≡◌, ℕ, ◌*◌, ◌%◌, ◌<◌, ◌≤◌, true, None, List, [], ◌∷◌, length, IsTrue, ⊤}
use Rattle.std.specs.Int.{is_power_of_two}
use Rattle.svc_base.specs.declared.config.TheConstants.{MAX_SETS, MAX_WAYS}
use Rattle.svc_cache.specs.declared.cache.Cache.TheInside.{Inside}
use Rattle.svc_cache.specs.declared.place.CachePlace.{CachePlace}
use Rattle.svc_cache.specs.Places.{CacheValue, is_held, line_among, row_at}

-- what a cache's fields make
abbrev pub value_of : Inside → CacheValue
value_of cache = record { sets = cache.sets; ways = cache.ways; places = cache.places.items }

-- each line of the row is of a word of the set, and no later place has a line of the same word
unfoldable pub IsSoundRow : (sets set : ℕ) → List CachePlace → Type 0
IsSoundRow sets set [] = ⊤
IsSoundRow sets set (place ∷ places) =
    (is_held place ≡ true → (place.word.0 % sets ≡ set) × (line_among places place.word.0 ≡ None))
    × IsSoundRow sets set places

-- what the type of a cache guarantees
pub record IsSound (cache : CacheValue) : Type 0 where
  pub power : IsTrue (is_power_of_two cache.sets)
  pub few_sets : cache.sets ≤ MAX_SETS
  pub some_ways : 1 ≤ cache.ways
  pub few_ways : cache.ways ≤ MAX_WAYS
  pub size : length cache.places ≡ cache.sets * cache.ways
  pub rows : (set : ℕ) → set < cache.sets → IsSoundRow cache.sets set (row_at cache set)
