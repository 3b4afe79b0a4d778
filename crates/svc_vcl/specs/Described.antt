-- When a version list is that of a word of a bus.
use Rattle.std.specs.Prelude.{◌≡◌, ℕ, ◌<◌, true, false, Option, Some, None, length, get_or, if◌then◌else◌}
use Rattle.svc_line.specs.Bits.{Bits, bits_of, is_active, is_committed}
use Rattle.svc_line.specs.Line.{SeenLine}
use Rattle.svc_bus_laws.specs.LineTable.{LineTable}
use Rattle.svc_bus_laws.specs.BusLine.{BusLine, is_active_line, is_committed_line}
use Rattle.svc_bus_laws.specs.BusState.{BusState, Agrees}
use Rattle.svc_vol.specs.declared.held_line.HeldLine.{HeldLine}
use Rattle.svc_vol.specs.Value.{ListValue, held_at, unit_at}
use Rattle.svc_vcl.specs.Listed.{slot_at}

-- a value with bits, as callers of the bus see a line
abbrev pub line_with : (value : ℕ) → Bits → BusLine
line_with value bits =
    record { value = value; store = bits.store; load = bits.load; commit = bits.commit; stale = bits.stale }

-- a line of a cache, as callers of the bus see it; one without V counts as none
abbrev pub bus_line_of : Option SeenLine → Option BusLine
bus_line_of None = None
bus_line_of (Some line) = if line.bits.valid then Some (line_with line.value line.bits) else None

-- its line, as callers of the bus see it
abbrev pub line_shown : HeldLine → BusLine
line_shown version = line_with version.line.value (bits_of version.line.bits)

-- this is the unit's active line of the word
pub record IsActiveIn (b : BusState) (a unit : ℕ) (version : HeldLine) : Type 0 where
  pub unit_is : version.unit.0 ≡ unit
  pub held : b.lines unit a ≡ Some (line_shown version)
  pub active : is_active (bits_of version.line.bits) ≡ true

-- a task's slot has its unit's active line of the word, or none if it has none
abbrev pub IsSlotOf : BusState → (a unit : ℕ) → Option HeldLine → Type 0
IsSlotOf b a unit None = is_active_line (b.lines unit a) ≡ false
IsSlotOf b a unit (Some version) = IsActiveIn b a unit version

-- this is its unit's committed line of the word
pub record IsCommittedIn (b : BusState) (a : ℕ) (version : HeldLine) : Type 0 where
  pub within : version.unit.0 < b.caches
  pub held : b.lines version.unit.0 a ≡ Some (line_shown version)
  pub committed : is_committed (bits_of version.line.bits) ≡ true

-- the list has the valid lines of the word: each task's active one at its place, and the committed ones, no version
-- after a newer one
pub record Describes (b : BusState) (a : ℕ) (list : ListValue) : Type 0 where
  pub places : length list.active ≡ length b.units
  pub active : (place : ℕ) → place < length b.units → IsSlotOf b a (get_or b.units place 0) (slot_at list.active place)
  pub only : (i : ℕ) → i < length list.committed → IsCommittedIn b a (held_at list.committed i)
  pub each : (unit : ℕ) → unit < b.caches → is_committed_line (b.lines unit a) ≡ true
      → (i : ℕ) × (i < length list.committed) × (unit_at list.committed i ≡ unit)
  pub oldest_first : (i j : ℕ) → i < j → j < length list.committed
      → b.is_older a (unit_at list.committed j) (unit_at list.committed i) ≡ false

-- a request for the word by the unit of the task at a place, on a bus that agrees with a line table, with the word's
-- version list
pub record IsRequest (b : BusState) (t : LineTable) (a : ℕ) (list : ListValue) (unit place : ℕ) : Type 0 where
  pub agrees : Agrees b t
  pub described : Describes b a list
  pub within : place < length b.units
  pub at_work : get_or b.units place 0 ≡ unit

-- with the word's spilled value and its backing word
pub record IsReadRequest (b : BusState) (t : LineTable) (a : ℕ) (list : ListValue) (unit place : ℕ) (spill : Option ℕ)
    (backing : ℕ) : Type 0 where
  pub request : IsRequest b t a list unit place
  pub spill_is : b.spill a ≡ spill
  pub backing_is : b.backing a ≡ backing
