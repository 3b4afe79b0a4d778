-- What a version list holds of the lines of a word.
use Rattle.std.specs.Prelude.{◌≡◌, ℕ, ◌<◌, ◌≤◌, true, false, Option, Some, None, List, length, map, option_map, get_or}
use Rattle.std.specs.Prelude.{if◌then◌else◌}
use Rattle.svc_line.specs.Bits.{is_active, is_committed}
use Rattle.svc_line.specs.Line.{SeenLine, seen_line}
use Rattle.svc_cache.specs.Lines.{is_committed_line}
use Rattle.svc_vol.specs.Lines.{UnitLines, is_older_line}
use Rattle.svc_vol.specs.declared.held_line.HeldLine.{HeldLine}

-- a version list as its callers see it
pub record ListValue : Type 0 where
  -- the committed lines
  pub committed : List HeldLine
  -- the active line of each active task that has one, by the task's place in the queue
  pub active : List (Option HeldLine)

-- a line with its unit, as contracts see it
pub record SeenHeldLine : Type 0 where
  pub unit : ℕ
  pub line : SeenLine

abbrev pub seen_held_line : HeldLine → SeenHeldLine
seen_held_line held = record { unit = held.unit.0; line = seen_line held.line }

-- the unit's line, if it is active
abbrev pub active_line : (unit : ℕ) → Option SeenLine → Option SeenHeldLine
active_line unit None = None
active_line unit (Some line) = if is_active line.bits then Some (record { unit = unit; line = line }) else None

-- the active line of each task, by the units that run them
abbrev pub active_lines : UnitLines → (units : List ℕ) → List (Option SeenHeldLine)
active_lines lines units = map (λ unit. active_line unit (lines unit)) units

-- what stands past the end of a list
abbrev pub no_held_line : HeldLine
no_held_line = record { unit = record { 0 = 0 }; line = record { value = 0; bits = record { 0 = 0 }; next = None } }

-- the line at a place
abbrev pub held_at : List HeldLine → ℕ → HeldLine
held_at list place = get_or list place no_held_line

-- the unit of the line at a place
abbrev pub unit_at : List HeldLine → ℕ → ℕ
unit_at list place = (held_at list place).unit.0

-- it is the committed line of its unit, one of the first n
pub record IsCommittedHeldLine (lines : UnitLines) (count : ℕ) (held_line : HeldLine) : Type 0 where
  pub within : held_line.unit.0 < count
  pub held : lines held_line.unit.0 ≡ Some (seen_line held_line.line)
  pub committed : is_committed (seen_line held_line.line).bits ≡ true

-- the list has each committed line of the first n units once and nothing else, and no version stands after a newer one
pub record AreCommitted (lines : UnitLines) (count : ℕ) (list : List HeldLine) : Type 0 where
  pub few : length list ≤ count
  pub only : (place : ℕ) → place < length list → IsCommittedHeldLine lines count (held_at list place)
  pub each : (unit : ℕ) → unit < count → is_committed_line (lines unit) ≡ true
      → (place : ℕ) × (place < length list) × (unit_at list place ≡ unit)
  pub once : (place other : ℕ) → place < length list → other < length list → unit_at list place ≡ unit_at list other
      → place ≡ other
  pub oldest_first : (place later : ℕ) → place < later → later < length list
      → is_older_line count lines (unit_at list later) (unit_at list place) ≡ false

-- the list has the committed ones of these lines, those of the first n units, and each task's active one, by the units
-- that run the tasks
pub record IsListOf (lines : UnitLines) (count : ℕ) (units : List ℕ) (list : ListValue) : Type 0 where
  pub committed : AreCommitted lines count list.committed
  pub active : map (option_map seen_held_line) list.active ≡ active_lines lines units
