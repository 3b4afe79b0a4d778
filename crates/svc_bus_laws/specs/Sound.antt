-- What holds of every line table that the bus reaches.
use Rattle.std.specs.Prelude.{◌≡◌, ◌⊎◌, ℕ, ◌+◌, ◌<◌, true, false, Some, None, is_some, length}
use Rattle.svc_bus_laws.specs.Versioned.{view}
use Rattle.svc_bus_laws.specs.LineTable.{Line, LineTable, is_committed_dirty, version_in, unit_at, line_at, own_version}
use Rattle.svc_bus_laws.specs.LineTable.{committed_value, versioned_map}

-- what holds of an active line of the word, in the unit of the task at a place
pub record IsActiveLine (t : LineTable) (a : ℕ) (l : Line) (p : ℕ) : Type 0 where
  pub within : p < length t.units
  pub task_is : l.task ≡ t.commits + p
  -- it holds what its task reads
  pub current : l.value ≡ view (versioned_map t) p a
  -- if it is clean it has L, unless its task is the head
  pub loaded : l.store ≡ false → (p ≡ 0) ⊎ (l.load ≡ true)

-- what holds of a committed line of the word
pub record IsCommittedLine (t : LineTable) (a : ℕ) (l : Line) : Type 0 where
  pub older : l.task < t.commits
  -- a clean line without T holds the committed value
  pub newest : l.store ≡ false → l.stale ≡ false → l.value ≡ committed_value t a

-- what holds of a valid line of the word in the unit's cache
pub record IsSoundLine (t : LineTable) (u a : ℕ) (l : Line) : Type 0 where
  -- it lies in one of the caches, and not past the memory
  pub cached : u < t.caches
  pub in_memory : a < t.words
  pub active : l.commit ≡ false → (p : ℕ) × (unit_at t p ≡ u) × IsActiveLine t a l p
  pub committed : l.commit ≡ true → IsCommittedLine t a l
  -- without T, no task above the line's has a version
  pub unmarked : l.stale ≡ false → (q : ℕ) → q < length t.units → l.task < t.commits + q → own_version t q a ≡ None

-- what holds if a value of the word is spilled: it is the head's only version, and no committed dirty line is left
pub record IsSpilled (t : LineTable) (a : ℕ) : Type 0 where
  pub in_memory : a < t.words
  pub has_head : 0 < length t.units
  pub replaced : version_in (line_at t 0 a) ≡ None
  pub purged : (u : ℕ) → is_committed_dirty (t.lines u a) ≡ false

-- the invariant of every step
pub record IsSound (t : LineTable) : Type 0 where
  -- the active tasks run on different units, each with a cache
  pub distinct_units : (p q : ℕ) → p < length t.units → q < length t.units → unit_at t p ≡ unit_at t q → p ≡ q
  pub known_units : (p : ℕ) → p < length t.units → unit_at t p < t.caches
  pub sound_lines : (u a : ℕ) (l : Line) → t.lines u a ≡ Some l → IsSoundLine t u a l
  -- committed lines of one word in two caches have different numbers
  pub distinct_versions : (u v a : ℕ) (k l : Line) → t.lines u a ≡ Some k → t.lines v a ≡ Some l → k.commit ≡ true
      → l.commit ≡ true → k.task ≡ l.task → u ≡ v
  pub sound_spills : (a : ℕ) → is_some (t.spill a) ≡ true → IsSpilled t a
