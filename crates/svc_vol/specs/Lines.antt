-- The lines of one word by unit, and which committed version is older.
use Rattle.std.specs.Prelude.{◌≡◌, ℕ, ◌+◌, ◌<◌, ◌≤◌, ◌^◌, Bool, true, false, ◌&&◌, Option, Some, None, List, length}
use Rattle.std.specs.Prelude.{map, get_or, option_map}
use Rattle.std.specs.List.{sum_by}
use Rattle.svc_line.specs.Line.{SeenLine, seen_line}
use Rattle.svc_line.specs.declared.line.Line.{Line}
use Rattle.svc_cache.specs.declared.probes.Probes.{Probes}
use Rattle.svc_cache.specs.Places.{CacheValue, line_of}
use Rattle.svc_links_laws.specs.LinkOrder.{reaches}
use Rattle.svc_links_laws.specs.Walks as chain
use Rattle.svc_vol.specs.declared.list.TheConstants.{CAPACITY}

-- the line of one word in each unit's cache
abbrev pub UnitLines : Type 0
UnitLines = (unit : ℕ) → Option SeenLine

-- the lines of the list's places
abbrev pub lines_at : List (Option SeenLine) → UnitLines
lines_at lines unit = get_or lines unit None

-- the lines that a search found, each at its unit's place
abbrev pub lines_found : List (Option Line) → UnitLines
lines_found found = lines_at (map (option_map seen_line) found)

-- the lines of a word in these caches, each unit's cache at its place
abbrev pub lines_in : List CacheValue → (word : ℕ) → UnitLines
lines_in caches word = lines_at (map (λ (cache : CacheValue). line_of cache word) caches)

-- there is a committed line that was stored to
abbrev pub is_committed_version : Option SeenLine → Bool
is_committed_version None = false
is_committed_version (Some line) = line.bits.commit && line.bits.store

-- the unit that a line links to
abbrev pub link_of : Option SeenLine → Option ℕ
link_of None = None
link_of (Some line) = line.next

-- the units with a committed version of the word, and their links
abbrev pub versions_of : UnitLines → ℕ → Bool
versions_of lines unit = is_committed_version (lines unit)

abbrev pub links_of : UnitLines → ℕ → Option ℕ
links_of lines unit = link_of (lines unit)

-- of n units: both have a committed version of the word, and links lead from the first's to the second's, so it is
-- older
abbrev pub is_older_line : (units : ℕ) → UnitLines → (unit other : ℕ) → Bool
is_older_line units lines unit other =
    versions_of lines unit && reaches (versions_of lines) (links_of lines) units unit other

-- the links of the word's committed versions make one chain
abbrev pub IsRanked : (units : ℕ) → UnitLines → Type 0
IsRanked units lines = chain.IsRanked units (versions_of lines) (links_of lines)

-- the word's lines can be listed: a list has a place for each cache, each active task's unit has a cache, and the links
-- of the committed versions make one chain
pub record CanBeListed (caches : List CacheValue) (units : List ℕ) (word : ℕ) : Type 0 where
  pub few : length caches ≤ CAPACITY
  pub known : (place : ℕ) → place < length units → get_or units place 0 < length caches
  pub ranked : IsRanked (length caches) (lines_in caches word)

-- every line has V
pub record AreValid (lines : UnitLines) : Type 0 where
  pub valid : (unit : ℕ) (line : SeenLine) → lines unit ≡ Some line → line.bits.valid ≡ true

-- how many places one set of each cache has, together
abbrev pub ways_in : List CacheValue → ℕ
ways_in caches = sum_by (λ (cache : CacheValue). cache.ways) caches

-- there is room to count one search of each cache
pub record HasRoomForEach (probes : Probes) (caches : List CacheValue) : Type 0 where
  pub searches : probes.searches + length caches < 2 ^ 32
  pub places : probes.places + ways_in caches < 2 ^ 32

-- exactly one search of each cache was added, and no more places than one set of each has
pub record CountsOneOfEach (before after : Probes) (caches : List CacheValue) : Type 0 where
  pub searches : after.searches ≡ before.searches + length caches
  pub places : after.places ≤ before.places + ways_in caches

-- the same without one cache, which isn't searched
pub record CountsEachOther (before after : Probes) (caches : List CacheValue) : Type 0 where
  pub searches : after.searches + 1 ≡ before.searches + length caches
  pub places : after.places ≤ before.places + ways_in caches
