-- The line table: every cache's lines, the spill table and the backing memory.
-- The bits V, S, L, C and T are those of "Speculative Versioning Cache" (HPCA 1998), the efficient commit design (EC).
use Rattle.std.specs.Prelude.{ℕ, Bool, false, cond, not, ◌&&◌, ◌||◌, ◌==◌, leb, Option, Some, None, List, [], length}
use Rattle.std.specs.Prelude.{get_or}
use Rattle.std.specs.Option.{option_or}
use Rattle.svc_bus_laws.specs.Search.{least, all_below, any_below, tabulate}
use Rattle.svc_bus_laws.specs.Versioned.{Row, Versioned}

-- a valid line: its value, the bits S, L, C and T, and the number of the task that filled, stored or reused it last
pub record Line : Type 0 where
  pub value : ℕ
  pub store : Bool
  pub load : Bool
  pub commit : Bool
  pub stale : Bool
  pub task : ℕ

-- all that the caches, the spill table and the memory hold
pub record LineTable : Type 0 where
  -- the units are the numbers below caches, and each has a cache of sets times ways places
  pub caches : ℕ
  pub sets : ℕ
  pub ways : ℕ
  -- the memory's words are the numbers below words
  pub words : ℕ
  -- by unit and word
  pub lines : ℕ → ℕ → Option Line
  -- the head's versions whose lines were replaced, by word
  pub spill : ℕ → Option ℕ
  -- the memory, by word
  pub backing : ℕ → ℕ
  -- how many tasks were committed: the head's number
  pub commits : ℕ
  -- the units of the active tasks, oldest first
  pub units : List ℕ

-- V set and C clear
abbrev pub is_active : Option Line → Bool
is_active None = false
is_active (Some l) = not l.commit

-- the value of an active dirty line
abbrev pub version_in : Option Line → Option ℕ
version_in None = None
version_in (Some l) = cond (not l.commit && l.store) (Some l.value) None

-- an active line with L set
abbrev pub exposed_in : Option Line → Bool
exposed_in None = false
exposed_in (Some l) = not l.commit && l.load

-- a committed line with S set
abbrev pub is_committed_dirty : Option Line → Bool
is_committed_dirty None = false
is_committed_dirty (Some l) = l.commit && l.store

-- a committed line with S and T clear
abbrev pub is_reusable : Option Line → Bool
is_reusable None = false
is_reusable (Some l) = l.commit && (not l.store && not l.stale)

-- the number of a line's task
abbrev pub task_in : Option Line → ℕ
task_in None = 0
task_in (Some l) = l.task

-- a line's value, 0 if there is none
abbrev pub value_in : Option Line → ℕ
value_in None = 0
value_in (Some l) = l.value

-- the unit runs one of the tasks from a place on
abbrev pub is_cut : List ℕ → ℕ → ℕ → Bool
is_cut units n u = any_below (length units) (λ q. leb n q && (get_or units q 0 == u))

-- the place of the unit's task
abbrev pub place_of : List ℕ → ℕ → Option ℕ
place_of units u = least (length units) (λ q. get_or units q 0 == u)

-- the unit of the task at a place
abbrev pub unit_at : LineTable → ℕ → ℕ
unit_at t p = get_or t.units p 0

-- the line of the word in the unit of the task at a place
abbrev pub line_at : LineTable → ℕ → ℕ → Option Line
line_at t p a = t.lines (unit_at t p) a

-- the unit has a committed dirty line of the word, and none has a greater number
abbrev pub is_newest : LineTable → ℕ → ℕ → Bool
is_newest t a u =
    is_committed_dirty (t.lines u a)
    && all_below t.caches
    (λ v. not (is_committed_dirty (t.lines v a)) || leb (task_in (t.lines v a)) (task_in (t.lines u a)))

-- the unit of the committed dirty line of the word with the greatest number
abbrev pub newest : LineTable → ℕ → Option ℕ
newest t a = least t.caches (is_newest t a)

-- the value of the unit's line, otherwise the backing word
abbrev pub value_of : LineTable → ℕ → Option ℕ → ℕ
value_of t a None = t.backing a
value_of t a (Some u) = value_in (t.lines u a)

-- the committed value: that of the committed dirty line with the greatest number, otherwise the backing word
abbrev pub committed_value : LineTable → ℕ → ℕ
committed_value t a = value_of t a (newest t a)

-- the version of the task at a place: the active dirty line or, for the head without one, the spilled value
abbrev pub own_version : LineTable → ℕ → ℕ → Option ℕ
own_version t p a = option_or (version_in (line_at t p a)) (cond (p == 0) (t.spill a) None)

-- the row of the task at a place: exposed are the active lines with L, except the head's
abbrev pub row_of : LineTable → ℕ → Row
row_of t p = record {
  versions = λ a. own_version t p a;
  exposed = λ a. not (p == 0) && exposed_in (line_at t p a);
}

-- the versioned map that the lines stand for
abbrev pub versioned_map : LineTable → Versioned
versioned_map t = record {
  commits = t.commits;
  committed = committed_value t;
  rows = tabulate (length t.units) (row_of t);
}

-- the opened bus: no lines, no tasks
abbrev pub opening_table : ℕ → ℕ → ℕ → List ℕ → LineTable
opening_table caches sets ways memory = record {
  caches = caches;
  sets = sets;
  ways = ways;
  words = length memory;
  lines = λ u a. None;
  spill = λ a. None;
  backing = λ a. get_or memory a 0;
  commits = 0;
  units = [];
}
