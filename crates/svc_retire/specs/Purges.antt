-- What a purge of a word removes, what it writes back, and what it costs.
use Rattle.std.specs.Prelude.{◌≡◌, ℕ, ◌+◌, ◌*◌, ◌<◌, ◌≤◌, ◌^◌, ◌==◌, Bool, true, false, cond, not, ◌&&◌, ◌||◌, Option}
use Rattle.std.specs.Prelude.{Some, None, List, length, get_or}
use Rattle.svc_base.specs.declared.config.TheConstants.{MAX_WAYS}
use Rattle.svc_base.specs.declared.ids.UnitId.{UnitId}
use Rattle.svc_line.specs.Bits.{bits_of, is_dirty}
use Rattle.svc_cache.specs.declared.probes.Probes.{Probes}
use Rattle.svc_cache.specs.Places.{CacheValue}
use Rattle.svc_line.specs.Line.{SeenLine}
use Rattle.svc_bus_laws.specs.Search.{all_below, how_many, least}
use Rattle.svc_vol.specs.declared.held_line.HeldLine.{HeldLine}
use Rattle.svc_vol.specs.Lines.{IsRanked, is_committed_version, is_older_line, lines_in}
use Rattle.svc_vol.specs.Value.{AreCommitted, ListValue, held_at}
use Rattle.svc_retire.specs.Caches.{cache_at, held_line}

-- the unit's line stays
abbrev pub keeps : Option UnitId → ℕ → Bool
keeps None u = false
keeps (Some kept) u = kept.0 == u

-- a committed line that was stored to becomes invalid
abbrev pub purged_line : Option SeenLine → Option SeenLine
purged_line line = cond (is_committed_version line) None line

-- the unit's line of the second word after a purge of the first
abbrev pub line_after_purge : Option UnitId → (word u a : ℕ) → Option SeenLine → Option SeenLine
line_after_purge keep word u a line = cond (a == word) (cond (keeps keep u) line (purged_line line)) line

-- the purge removes the unit's line of the word
abbrev pub is_purged : List CacheValue → Option UnitId → (word u : ℕ) → Bool
is_purged caches keep word u = is_committed_version (held_line caches u word) && not (keeps keep u)

-- how many lines it removes
abbrev pub purges : List CacheValue → Option UnitId → (word : ℕ) → ℕ
purges caches keep word = how_many (length caches) (is_purged caches keep word)

-- the line holds a version
abbrev pub holds_version : HeldLine → Bool
holds_version held = is_dirty (bits_of held.line.bits)

-- it is removed
abbrev pub drops : Option UnitId → HeldLine → Bool
drops keep held = holds_version held && not (keeps keep held.unit.0)

-- the unit has a committed version of the word, and none is newer
abbrev pub is_newest : List CacheValue → (word u : ℕ) → Bool
is_newest caches word u =
    is_committed_version (held_line caches u word)
    && all_below (length caches)
    (λ v. not (is_committed_version (held_line caches v word))
    || not (is_older_line (length caches) (lines_in caches word) u v))

-- the line's value, 0 if there is none
abbrev pub line_value : Option SeenLine → ℕ
line_value None = 0
line_value (Some line) = line.value

-- the value of the unit's line, otherwise the word in memory
abbrev pub value_of : List CacheValue → (memory : List ℕ) → (word : ℕ) → Option ℕ → ℕ
value_of caches memory word None = get_or memory word 0
value_of caches memory word (Some u) = line_value (held_line caches u word)

-- the committed value of the word: that of its newest committed version, otherwise that of the memory
abbrev pub committed_in : List CacheValue → (memory : List ℕ) → ℕ → ℕ
committed_in caches memory word = value_of caches memory word (least (length caches) (is_newest caches word))

-- the line at a place holds this value as a version, and no later line holds one
pub record IsNewestAt (lines : List HeldLine) (count value place : ℕ) : Type 0 where
  pub within : place < count
  pub dirty : holds_version (held_at lines place) ≡ true
  pub value_is : value ≡ (held_at lines place).line.value
  pub last : (later : ℕ) → place < later → later < count → holds_version (held_at lines later) ≡ false

-- the value of the last version among the first n lines
abbrev pub IsNewest : List HeldLine → (count : ℕ) → Option ℕ → Type 0
IsNewest lines count None = (place : ℕ) → place < count → holds_version (held_at lines place) ≡ false
IsNewest lines count (Some value) = (place : ℕ) × IsNewestAt lines count value place

-- the word can be purged: the list has its committed lines, the links of its versions make one chain, and the memory
-- has the word
pub record CanPurge (caches : List CacheValue) (memory : List ℕ) (list : ListValue) (word : ℕ) : Type 0 where
  pub listed : AreCommitted (lines_in caches word) (length caches) list.committed
  pub ranked : IsRanked (length caches) (lines_in caches word)
  pub in_memory : word < length memory

-- there is room to count this many searches
pub record HasRoomFor (probes : Probes) (caches : List CacheValue) (count : ℕ) : Type 0 where
  pub searches : probes.searches + count < 2 ^ 32
  pub places : probes.places + MAX_WAYS * count < 2 ^ 32
  pub ways : (u : ℕ) → u < length caches → (cache_at caches u).ways ≤ MAX_WAYS

-- exactly this many searches were added, each visiting at most as many places as a set can have ways
pub record CountsSearches (before after : Probes) (count : ℕ) : Type 0 where
  pub searches : after.searches ≡ before.searches + count
  pub places : after.places ≤ before.places + MAX_WAYS * count
