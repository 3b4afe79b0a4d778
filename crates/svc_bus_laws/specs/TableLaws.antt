-- The laws of the line table: each step keeps it sound, and is the versioned map's step with the same answer.
use Rattle.std.specs.Prelude.{is_some, ◌≡◌, ◌≢◌, ◌⊎◌, ℕ, ◌+◌, ◌<◌, ◌≤◌, true, false, Some, None, List, [], length}
use Rattle.std.specs.Prelude.{get_or}
use Rattle.svc_bus_laws.specs.Versioned.{Versioned, view, victim}
use Rattle.svc_bus_laws.specs.Versioned as map
use Rattle.svc_bus_laws.specs.Walk.{walk_lines}
use Rattle.svc_bus_laws.specs.LineTable.{LineTable, is_active, is_committed_dirty, is_reusable, value_in, unit_at}
use Rattle.svc_bus_laws.specs.LineTable.{line_at, committed_value, versioned_map, opening_table}
use Rattle.svc_bus_laws.specs.Supplier.{supplier, supplied_value, is_spill}
use Rattle.svc_bus_laws.specs.Steps.{read, write, replace, squash, squash_from, commit, begin, purge}
use Rattle.svc_bus_laws.specs.Steps.{line_after_squashing}
use Rattle.svc_bus_laws.specs.Sound.{IsSound}
use Rattle.svc_bus_laws.specs.Reached.{Reached}
use Rattle.svc_bus_laws.specs.Refusals.{table_cache, is_pinned}

-- an opened bus is sound, and stands for the map of its memory without tasks
abbrev pub OpenedLaw : Type 0
OpenedLaw = (caches sets ways : ℕ) (memory : List ℕ) → IsSound (opening_table caches sets ways memory)
    × (versioned_map (opening_table caches sets ways memory)
    ≡ record { commits = 0; committed = λ a. get_or memory a 0; rows = [] })

-- every reached table is sound
abbrev pub ReachedLaw : Type 0
ReachedLaw = (t : LineTable) → Reached t → IsSound t

-- no line lies past the memory
abbrev pub MemoryLaw : Type 0
MemoryLaw = (t : LineTable) (u a : ℕ) → IsSound t → t.words ≤ a → t.lines u a ≡ None

-- a read
abbrev pub ReadLaw : Type 0
ReadLaw = (t : LineTable) (p a : ℕ) → IsSound t → p < length t.units → a < t.words
    → IsSound (read t p a) × (versioned_map (read t p a) ≡ map.read (versioned_map t) p a)

-- at a hit and at a reuse the unit's own line holds what the task reads
abbrev pub OwnLineLaw : Type 0
OwnLineLaw = (t : LineTable) (p a : ℕ) → IsSound t → p < length t.units
    → (is_active (line_at t p a) ≡ true) ⊎ (is_reusable (line_at t p a) ≡ true)
    → value_in (line_at t p a) ≡ view (versioned_map t) p a

-- the supplier of a read holds what the task reads
abbrev pub SupplierLaw : Type 0
SupplierLaw = (t : LineTable) (p a : ℕ) → IsSound t → p < length t.units
    → supplied_value t p a (supplier t p a) ≡ Some (view (versioned_map t) p a)

-- the spill supplies the head's bus request exactly when the word has a spilled value (and then its line has no L)
abbrev pub SpillSupplies : Type 0
SpillSupplies = (t : LineTable) (a : ℕ) → is_active (line_at t 0 a) ≡ false → is_reusable (line_at t 0 a) ≡ false
    → is_spill (supplier t 0 a) ≡ is_some (t.spill a)

-- a write; the tasks that it leaves are those below the map's victim
abbrev pub WriteLaw : Type 0
WriteLaw = (t : LineTable) (p a w : ℕ) → IsSound t → p < length t.units → a < t.words
    → IsSound (write t p a w) × (versioned_map (write t p a w) ≡ map.write (versioned_map t) p a w)

-- the walk over the later tasks' lines finds the map's victim
abbrev pub LineWalkLaw : Type 0
LineWalkLaw = (t : LineTable) (p a : ℕ) → walk_lines t p a ≡ victim (versioned_map t) p a

-- a replacement that is not refused as pinned
abbrev pub ReplaceLaw : Type 0
ReplaceLaw = (t : LineTable) (u a : ℕ) → IsSound t → is_pinned (table_cache t u) t.units u a ≡ false
    → IsSound (replace t u a) × (versioned_map (replace t u a) ≡ versioned_map t)

-- a squash of the tasks from a place above the head on
abbrev pub SquashLaw : Type 0
SquashLaw = (t : LineTable) (n : ℕ) → IsSound t → 0 < n → n ≤ length t.units
    → IsSound (squash t n) × (versioned_map (squash t n) ≡ map.squash (versioned_map t) n)

-- a squash takes out the lines with the cut tasks' numbers
abbrev pub SquashNumbers : Type 0
SquashNumbers = (t : LineTable) (n : ℕ) → IsSound t → (u a : ℕ)
    → (squash t n).lines u a ≡ line_after_squashing (t.commits + n) (t.lines u a)

-- a squash from a unit on is one from its task's place on
abbrev pub SquashFrom : Type 0
SquashFrom = (t : LineTable) (n : ℕ) → IsSound t → n < length t.units → squash_from t (unit_at t n) ≡ squash t n

-- a commit of the head
abbrev pub CommitLaw : Type 0
CommitLaw = (t : LineTable) → IsSound t → 0 < length t.units
    → IsSound (commit t) × (versioned_map (commit t) ≡ map.commit (versioned_map t))

-- the head reads a spilled value; before its commit that value isn't committed, and after it, it is the committed value
-- and the backing word
pub record IsKeptSpill (t : LineTable) (a s : ℕ) : Type 0 where
  pub seen : view (versioned_map t) 0 a ≡ s
  pub before : committed_value t a ≡ t.backing a
  pub after : committed_value (commit t) a ≡ s
  pub written : (commit t).backing a ≡ s

abbrev pub SpillLaw : Type 0
SpillLaw = (t : LineTable) (a s : ℕ) → IsSound t → t.spill a ≡ Some s → IsKeptSpill t a s

-- an idle unit begins a task
abbrev pub BeginLaw : Type 0
BeginLaw = (t : LineTable) (u : ℕ) → IsSound t → u < t.caches → ((p : ℕ) → p < length t.units → unit_at t p ≢ u)
    → IsSound (begin t u) × (versioned_map (begin t u) ≡ map.begin (versioned_map t))

-- what a purge of the word leaves
pub record IsPurged (s t : LineTable) (a : ℕ) : Type 0 where
  pub sound : IsSound s
  pub same_map : versioned_map s ≡ versioned_map t
  pub backing : s.backing a ≡ committed_value t a
  pub clean : (u : ℕ) → is_committed_dirty (s.lines u a) ≡ false

abbrev pub PurgeLaw : Type 0
PurgeLaw = (t : LineTable) (a : ℕ) → IsSound t → IsPurged (purge t a) t a
