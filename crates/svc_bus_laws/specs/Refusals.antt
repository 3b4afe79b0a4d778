-- When a read, a write or a replacement is refused. This depends on one unit's cache as callers see it, so it is the
-- same for a bus and for a line table.
use Rattle.std.specs.Prelude.{◌≡◌, ℕ, ◌<◌, ◌%◌, Bool, true, false, cond, not, ◌&&◌, ◌==◌, ltb, leb, Option, None}
use Rattle.std.specs.Prelude.{is_some, is_none, List, length, get_or}
use Rattle.std.specs.Option.{option_or}
use Rattle.svc_bus_laws.specs.Search.{least, how_many}
use Rattle.svc_bus_laws.specs.LineTable.{LineTable}
use Rattle.svc_bus_laws.specs.BusLine.{BusLine, is_active_line, is_committed_line}
use Rattle.svc_bus_laws.specs.BusState.{BusState, without_number}

-- one unit's cache: how many sets, ways and words there are, and its lines by word
pub record CacheState : Type 0 where
  pub sets : ℕ
  pub ways : ℕ
  pub words : ℕ
  pub lines : ℕ → Option BusLine

-- the unit's cache of a bus, and of a line table
abbrev pub bus_cache : BusState → ℕ → CacheState
bus_cache b u = record { sets = b.sets; ways = b.ways; words = b.words; lines = b.lines u }

abbrev pub table_cache : LineTable → ℕ → CacheState
table_cache t u = record { sets = t.sets; ways = t.ways; words = t.words; lines = λ a. without_number (t.lines u a) }

-- the second word has a valid line, in the set of the first
abbrev pub is_in_set : CacheState → ℕ → ℕ → Bool
is_in_set c a w = (w % c.sets == a % c.sets) && is_some (c.lines w)

-- that line is committed
abbrev pub is_committed_in_set : CacheState → ℕ → ℕ → Bool
is_committed_in_set c a w = is_in_set c a w && is_committed_line (c.lines w)

-- the word has no valid line, and its set is full
abbrev pub is_set_full : CacheState → ℕ → Bool
is_set_full c a = is_none (c.lines a) && leb c.ways (how_many c.words (is_in_set c a))

-- the lowest word of the set whose line is committed; if no line of the set is, the lowest with a line
abbrev pub full_address : CacheState → ℕ → Option ℕ
full_address c a = option_or (least c.words (is_committed_in_set c a)) (least c.words (is_in_set c a))

-- the address that a refused read or write of the word names, if it is refused
abbrev pub set_full : CacheState → ℕ → Option ℕ
set_full c a = cond (is_set_full c a) (full_address c a) None

-- a replacement of the word is refused because the unit has no valid line of it
abbrev pub is_not_resident : CacheState → ℕ → Bool
is_not_resident c a = is_none (c.lines a)

-- the unit runs the head
abbrev pub is_head : List ℕ → ℕ → Bool
is_head units u = ltb 0 (length units) && (get_or units 0 0 == u)

-- a replacement of the word by the unit is refused because the line is active and not the head's
abbrev pub is_pinned : CacheState → List ℕ → ℕ → ℕ → Bool
is_pinned c units u a = is_active_line (c.lines a) && not (is_head units u)

-- the address named has a line in the set, a committed one if any of the set is, and no lower one of that kind
pub record IsNamed (c : CacheState) (a b : ℕ) : Type 0 where
  pub in_memory : b < c.words
  pub in_set : is_in_set c a b ≡ true
  -- a lower line of the set is passed over only if it is uncommitted and the named one is committed
  pub least : (w : ℕ) → w < b → is_in_set c a w ≡ true
      → (is_committed_line (c.lines w) ≡ false) × (is_committed_line (c.lines b) ≡ true)
  -- an uncommitted line is named only if none of the set is committed
  pub preferred : (w : ℕ) → w < c.words → is_committed_in_set c a w ≡ true → is_committed_line (c.lines b) ≡ true
