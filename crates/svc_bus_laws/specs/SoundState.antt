-- What every state that agrees with a line table satisfies.
use Rattle.std.specs.Prelude.{◌≡◌, ℕ, ◌<◌, ◌≤◌, true, false, None, is_some, length, get_or}
use Rattle.svc_bus_laws.specs.BusLine.{is_active_line, is_committed_dirty_line, version_of_line}
use Rattle.svc_bus_laws.specs.BusState.{BusState}
use Rattle.svc_bus_laws.specs.BusView.{bus_line_at}

-- what holds if a value of the word is spilled
pub record IsSpilledState (b : BusState) (a : ℕ) : Type 0 where
  pub in_memory : a < b.words
  pub has_head : 0 < length b.units
  pub replaced : version_of_line (bus_line_at b 0 a) ≡ None
  pub purged : (u : ℕ) → is_committed_dirty_line (b.lines u a) ≡ false

-- what such a state satisfies
pub record IsSoundState (b : BusState) : Type 0 where
  -- the active tasks run on different units, each with a cache
  pub distinct_units : (p q : ℕ) → p < length b.units → q < length b.units → get_or b.units p 0 ≡ get_or b.units q 0
      → p ≡ q
  pub known_units : (p : ℕ) → p < length b.units → get_or b.units p 0 < b.caches
  -- no line lies past the caches or past the memory
  pub cached : (u a : ℕ) → b.caches ≤ u → b.lines u a ≡ None
  pub in_memory : (u a : ℕ) → b.words ≤ a → b.lines u a ≡ None
  -- a unit with an active line runs a task
  pub at_work : (u a : ℕ) → is_active_line (b.lines u a) ≡ true
      → (p : ℕ) × (p < length b.units) × (get_or b.units p 0 ≡ u)
  pub spilled : (a : ℕ) → is_some (b.spill a) ≡ true → IsSpilledState b a
