-- The line tables that a bus reaches.
use Rattle.std.specs.Prelude.{◌≡◌, ◌≢◌, ℕ, ◌<◌, ◌≤◌, false, List, length}
use Rattle.svc_bus_laws.specs.LineTable.{LineTable, opening_table, unit_at}
use Rattle.svc_bus_laws.specs.Steps.{read, write, replace, squash, commit, begin}
use Rattle.svc_bus_laws.specs.Refusals.{table_cache, is_pinned}

-- an opened table, and each step of a reached one that is not refused
pub data Reached : LineTable → Type 0 where
  Opened : (caches sets ways : ℕ) (memory : List ℕ) → Reached (opening_table caches sets ways memory)
  Begun : (t : LineTable) (u : ℕ) → Reached t → u < t.caches → ((p : ℕ) → p < length t.units → unit_at t p ≢ u)
      → Reached (begin t u)
  WasRead : (t : LineTable) (p a : ℕ) → Reached t → p < length t.units → a < t.words → Reached (read t p a)
  Written : (t : LineTable) (p a w : ℕ) → Reached t → p < length t.units → a < t.words → Reached (write t p a w)
  Replaced : (t : LineTable) (u a : ℕ) → Reached t → is_pinned (table_cache t u) t.units u a ≡ false
      → Reached (replace t u a)
  Squashed : (t : LineTable) (n : ℕ) → Reached t → 0 < n → n ≤ length t.units → Reached (squash t n)
  WasCommitted : (t : LineTable) → Reached t → 0 < length t.units → Reached (commit t)
