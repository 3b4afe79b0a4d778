-- The laws of the refusals.
use Rattle.std.specs.Prelude.{◌≡◌, ℕ, ◌<◌, true, false, Some, None, length}
use Rattle.svc_bus_laws.specs.LineTable.{LineTable, is_active, unit_at}
use Rattle.svc_bus_laws.specs.BusState.{BusState, Agrees}
use Rattle.svc_bus_laws.specs.Refusals.{CacheState, bus_cache, table_cache, is_set_full, set_full, is_not_resident}
use Rattle.svc_bus_laws.specs.Refusals.{is_pinned, IsNamed}

-- a read or write is refused exactly when the word has no valid line and its set is full
abbrev pub FullRefuses : Type 0
FullRefuses = (c : CacheState) (a : ℕ) → 0 < c.ways → is_set_full c a ≡ true → (b : ℕ) × (set_full c a ≡ Some b)

-- a word whose set isn't full is not refused
abbrev pub RoomAllows : Type 0
RoomAllows = (c : CacheState) (a : ℕ) → is_set_full c a ≡ false → set_full c a ≡ None

-- the address that the refusal names
abbrev pub NamedAddress : Type 0
NamedAddress = (c : CacheState) (a b : ℕ) → set_full c a ≡ Some b → IsNamed c a b

-- the two refusals of a replacement exclude each other
abbrev pub PinnedResides : Type 0
PinnedResides = (b : BusState) (u a : ℕ) → is_pinned (bus_cache b u) b.units u a ≡ true
    → is_not_resident (bus_cache b u) a ≡ false

-- an active line that is not pinned is of the head's unit
abbrev pub UnpinnedHead : Type 0
UnpinnedHead = (t : LineTable) (u a : ℕ) → is_pinned (table_cache t u) t.units u a ≡ false
    → is_active (t.lines u a) ≡ true → (0 < length t.units) × (unit_at t 0 ≡ u)

-- each unit's cache is the same for a bus and for a line table that it agrees with, and so are all refusals
abbrev pub SameCache : Type 0
SameCache = (b : BusState) (t : LineTable) (u : ℕ) → Agrees b t → bus_cache b u ≡ table_cache t u

abbrev pub SameFull : Type 0
SameFull = (b : BusState) (t : LineTable) (u a : ℕ) → Agrees b t
    → set_full (bus_cache b u) a ≡ set_full (table_cache t u) a

abbrev pub SameResident : Type 0
SameResident = (b : BusState) (t : LineTable) (u a : ℕ) → Agrees b t
    → is_not_resident (bus_cache b u) a ≡ is_not_resident (table_cache t u) a

abbrev pub SamePinned : Type 0
SamePinned = (b : BusState) (t : LineTable) (u a : ℕ) → Agrees b t
    → is_pinned (bus_cache b u) b.units u a ≡ is_pinned (table_cache t u) t.units u a
