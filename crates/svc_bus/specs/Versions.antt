-- The committed versions of a word and their order.
use Rattle.std.specs.Prelude.{◌≡◌, ℕ, Bool, true, ◌&&◌, ◌==◌, List, map}
use Rattle.std.specs.List.{All, AllPairs, filter, list_any}
use Rattle.svc_base.specs.declared.ids.UnitId.{UnitId}
use Rattle.svc_line.specs.Bits.{bits_of, is_dirty}
use Rattle.svc_bus_laws.specs.BusLine.{is_committed_dirty_line}
use Rattle.svc_bus_laws.specs.BusState.{BusState}
use Rattle.svc_vol.specs.declared.held_line.HeldLine.{HeldLine}

-- the unit has a committed version of the word
abbrev pub HasVersion : BusState → (word : ℕ) → UnitId → Type 0
HasVersion b word unit = is_committed_dirty_line (b.lines unit.0 word) ≡ true

-- both units have a committed version of the word, and the first unit's is older
abbrev pub is_older_version : BusState → (word first second : ℕ) → Bool
is_older_version b word first second =
    (is_committed_dirty_line (b.lines first word) && is_committed_dirty_line (b.lines second word))
    && b.is_older word first second

abbrev pub IsOlder : BusState → (word : ℕ) → (first second : UnitId) → Type 0
IsOlder b word first second = is_older_version b word first.0 second.0 ≡ true

-- the list has each unit with a committed version of the word and no other, and each unit's version is older than those
-- of all units after it
pub record AreItsVersions (b : BusState) (word : ℕ) (units : List UnitId) : Type 0 where
  pub only : All (HasVersion b word) units
  pub each : (unit : ℕ) → is_committed_dirty_line (b.lines unit word) ≡ true
      → list_any (λ (x : UnitId). x.0 == unit) units ≡ true
  pub oldest_first : AllPairs (IsOlder b word) units

-- the units of those lines of a list that were stored to
abbrev pub is_stored : HeldLine → Bool
is_stored held = is_dirty (bits_of held.line.bits)

abbrev pub version_units : List HeldLine → List UnitId
version_units lines = map (λ (held : HeldLine). held.unit) (filter is_stored lines)
