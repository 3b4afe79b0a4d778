-- The places of a cache, and the map that they make.
use Rattle.std.specs.Prelude.{ℕ, ◌*◌, ◌%◌, ◌==◌, nat_lt, Bool, not, ◌&&◌, ◌||◌, Some, None, List, [], ◌∷◌, take, drop}
use Rattle.std.specs.Prelude.{if◌then◌else◌}
use Rattle.svc_line.specs.Bits.{bits_of, is_committed}
use Rattle.svc_line.specs.Line.{seen_line}
use Rattle.svc_cache.specs.Lines.{LineMap}
use Rattle.svc_cache.specs.declared.place.CachePlace.{CachePlace}

-- what a cache holds; its callers see only sets, ways and `line_of`
pub record CacheValue : Type 0 where
  pub sets : ℕ
  pub ways : ℕ
  pub places : List CachePlace

-- the place has a line
abbrev pub is_held : CachePlace → Bool
is_held place = (bits_of place.line.bits).valid

-- the place has a line of the word
abbrev pub holds : CachePlace → ℕ → Bool
holds place word = is_held place && (place.word.0 == word)

-- the line of the first place that holds the word
unfoldable pub line_among : List CachePlace → LineMap
line_among [] word = None
line_among (place ∷ places) word = if holds place word then Some (seen_line place.line) else line_among places word

-- the places of a set
abbrev pub row_at : CacheValue → (set : ℕ) → List CachePlace
row_at cache set = take cache.ways (drop (set * cache.ways) cache.places)

-- the line of a word, which lies in the set of its remainder
unfoldable pub line_of : CacheValue → LineMap
line_of cache word = line_among (row_at cache (word % cache.sets)) word

-- the place's line is committed
abbrev pub has_committed : CachePlace → Bool
has_committed place = is_committed (bits_of place.line.bits)

-- this place's line leaves before the other's: a committed line before an active one, otherwise the lower word
abbrev pub precedes : CachePlace → CachePlace → Bool
precedes place other =
    if has_committed place then (not (has_committed other) || nat_lt place.word.0 other.word.0)
    else (not (has_committed other) && nat_lt place.word.0 other.word.0)
