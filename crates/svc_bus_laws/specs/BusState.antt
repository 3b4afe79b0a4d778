-- What contracts see of a bus: the line table with each word's order of dirty lines in place of numbers. It is the same
-- whether lines carry numbers or links.
use Rattle.std.specs.Prelude.{◌≡◌, ℕ, Bool, false, ◌&&◌, ltb, Option, Some, None, List}
use Rattle.svc_bus_laws.specs.LineTable.{Line, LineTable, task_in}
use Rattle.svc_bus_laws.specs.BusLine.{BusLine}
use Rattle.svc_bus_laws.specs.Sound.{IsSound}

-- all that callers see of a bus
pub record BusState : Type 0 where
  -- how many units there are, the sets and ways of each cache, and the words of the memory
  pub caches : ℕ
  pub sets : ℕ
  pub ways : ℕ
  pub words : ℕ
  -- by unit and word
  pub lines : ℕ → ℕ → Option BusLine
  -- of a word and two units: both have a dirty line of the word, and the first unit's is older
  pub is_older : ℕ → ℕ → ℕ → Bool
  pub spill : ℕ → Option ℕ
  pub backing : ℕ → ℕ
  pub commits : ℕ
  -- the units of the active tasks, oldest first
  pub units : List ℕ
  -- the look-ups of the last accepted read or write
  pub probes : ℕ

-- a line without its number
abbrev pub without_number : Option Line → Option BusLine
without_number None = None
without_number (Some l) =
    Some (record { value = l.value; store = l.store; load = l.load; commit = l.commit; stale = l.stale })

-- S set
abbrev pub is_dirty : Option Line → Bool
is_dirty None = false
is_dirty (Some l) = l.store

-- both units have a dirty line of the word, and the first unit's has the lower number
abbrev pub is_lower : LineTable → ℕ → ℕ → ℕ → Bool
is_lower t a u v =
    (is_dirty (t.lines u a) && is_dirty (t.lines v a)) && ltb (task_in (t.lines u a)) (task_in (t.lines v a))

-- a bus agrees with a sound line table if they differ at most in the lines' numbers, and the numbers put each word's
-- dirty lines in the bus's order
pub record Agrees (b : BusState) (t : LineTable) : Type 0 where
  pub sound : IsSound t
  pub caches : b.caches ≡ t.caches
  pub sets : b.sets ≡ t.sets
  pub ways : b.ways ≡ t.ways
  pub words : b.words ≡ t.words
  pub lines : (u a : ℕ) → b.lines u a ≡ without_number (t.lines u a)
  pub order : (a u v : ℕ) → b.is_older a u v ≡ is_lower t a u v
  pub spill : (a : ℕ) → b.spill a ≡ t.spill a
  pub backing : (a : ℕ) → b.backing a ≡ t.backing a
  pub commits : b.commits ≡ t.commits
  pub units : b.units ≡ t.units

-- two states that differ at most in look-ups
pub record SameBus (b c : BusState) : Type 0 where
  pub caches : b.caches ≡ c.caches
  pub sets : b.sets ≡ c.sets
  pub ways : b.ways ≡ c.ways
  pub words : b.words ≡ c.words
  pub lines : (u a : ℕ) → b.lines u a ≡ c.lines u a
  pub order : (a u v : ℕ) → b.is_older a u v ≡ c.is_older a u v
  pub spill : (a : ℕ) → b.spill a ≡ c.spill a
  pub backing : (a : ℕ) → b.backing a ≡ c.backing a
  pub commits : b.commits ≡ c.commits
  pub units : b.units ≡ c.units

-- what callers see of a line table
abbrev pub state_of : ℕ → LineTable → BusState
state_of probes t = record {
  caches = t.caches;
  sets = t.sets;
  ways = t.ways;
  words = t.words;
  lines = λ u a. without_number (t.lines u a);
  is_older = is_lower t;
  spill = t.spill;
  backing = t.backing;
  commits = t.commits;
  units = t.units;
  probes = probes;
}

-- two line tables are alike if one bus agrees with both: they differ at most in numbers, and the numbers order each
-- word's dirty lines the same way
pub record AreAlike (s t : LineTable) : Type 0 where
  pub bus : BusState
  pub first : Agrees bus s
  pub second : Agrees bus t
