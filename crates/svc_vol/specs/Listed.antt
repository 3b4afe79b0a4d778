-- The two parts of the list of a word's committed lines: clean lines, and versions.
use Rattle.std.specs.Prelude.{◌≡◌, ◌≢◌, ℕ, ◌<◌, Bool, true, false, not, ◌&&◌, Option, Some, None, List, ◌++◌, length}
use Rattle.std.specs.Prelude.{get_or}
use Rattle.svc_line.specs.Bits.{is_committed, is_dirty}
use Rattle.svc_line.specs.Line.{SeenLine, seen_line}
use Rattle.svc_line.specs.declared.line.Line.{Line}
use Rattle.svc_vol.specs.Lines.{UnitLines}
use Rattle.svc_vol.specs.Value.{unit_at, held_at}
use Rattle.svc_vol.specs.declared.held_line.HeldLine.{HeldLine}

-- there is a committed line that was not stored to
abbrev pub is_copy : Option SeenLine → Bool
is_copy None = false
is_copy (Some line) = is_committed line.bits && not (is_dirty line.bits)

-- the line, if it is one
abbrev pub IsCopyIn : Option Line → Option Line → Type 0
IsCopyIn None copy = copy ≡ None
IsCopyIn (Some line) None = is_copy (Some (seen_line line)) ≡ false
IsCopyIn (Some line) (Some copy) = (copy ≡ line) × (is_copy (Some (seen_line line)) ≡ true)

-- the list has the clean committed line of each of the first n units once, and nothing else
pub record AreCopies (lines : UnitLines) (count : ℕ) (list : List HeldLine) : Type 0 where
  pub within : (k : ℕ) → k < length list → unit_at list k < count
  pub held : (k : ℕ) → k < length list → lines (unit_at list k) ≡ Some (seen_line (held_at list k).line)
  pub clean : (k : ℕ) → k < length list → is_copy (lines (unit_at list k)) ≡ true
  pub each : (u : ℕ) → u < count → is_copy (lines u) ≡ true → (k : ℕ) × (k < length list) × (unit_at list k ≡ u)
  pub apart : (j k : ℕ) → j < k → k < length list → unit_at list j ≢ unit_at list k

-- the lines of the first n units of the order follow what the list had
pub record ListsAfter (lines : UnitLines) (old : List HeldLine) (order : List ℕ) (count : ℕ) (list : List HeldLine)
    : Type 0 where
  pub later : List HeldLine
  pub are : list ≡ old ++ later
  pub size : length later ≡ count
  pub units : (k : ℕ) → k < count → unit_at later k ≡ get_or order k 0
  pub held : (k : ℕ) → k < count → lines (unit_at later k) ≡ Some (seen_line (held_at later k).line)
