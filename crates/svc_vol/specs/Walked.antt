-- A walk along the links of a word's committed versions.
use Rattle.std.specs.Prelude.{◌≡◌, ℕ, ◌<◌, Bool, true, false, ◌&&◌, Option, List, length, get_or}
use Rattle.svc_line.specs.Line.{SeenLine}
use Rattle.svc_links_laws.specs.LinkSteps.{is_unit}
use Rattle.svc_links_laws.specs.Walks.{StandsIn}
use Rattle.svc_vol.specs.Lines.{UnitLines, is_committed_version, link_of, is_older_line, versions_of}

-- the line is a committed version that links to the unit
abbrev pub is_before : Option SeenLine → (unit : ℕ) → Bool
is_before line unit = is_committed_version line && is_unit (link_of line) unit

-- the list has each of n units with a committed version of the word once and nothing else, and none after a newer one
pub record AreWalked (lines : UnitLines) (units : ℕ) (list : List ℕ) : Type 0 where
  pub all : (u : ℕ) → versions_of lines u ≡ true → StandsIn list u
  pub only : (i : ℕ) → i < length list → versions_of lines (get_or list i 0) ≡ true
  pub once : (i j : ℕ) → i < length list → j < length list → get_or list i 0 ≡ get_or list j 0 → i ≡ j
  pub oldest_first : (i j : ℕ) → i < j → j < length list
      → is_older_line units lines (get_or list j 0) (get_or list i 0) ≡ false
