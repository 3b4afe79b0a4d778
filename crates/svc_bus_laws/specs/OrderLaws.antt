-- The order of a word's dirty lines, as callers see it.
use Rattle.std.specs.Prelude.{◌≡◌, ◌≢◌, ◌⊎◌, ℕ, ◌<◌, true, false, ltb, is_some, length, get_or}
use Rattle.svc_bus_laws.specs.LineTable.{LineTable}
use Rattle.svc_bus_laws.specs.BusLine.{is_dirty_line, is_committed_dirty_line, version_of_line}
use Rattle.svc_bus_laws.specs.BusState.{BusState, Agrees}
use Rattle.svc_bus_laws.specs.BusView.{bus_line_at}

-- only dirty lines are ordered
abbrev pub OrderDirty : Type 0
OrderDirty = (b : BusState) (t : LineTable) (a u v : ℕ) → Agrees b t → b.is_older a u v ≡ true
    → (is_dirty_line (b.lines u a) ≡ true) × (is_dirty_line (b.lines v a) ≡ true)

-- no two are each older than the other
abbrev pub OrderStrict : Type 0
OrderStrict = (b : BusState) (t : LineTable) (a u v : ℕ) → Agrees b t → b.is_older a u v ≡ true
    → b.is_older a v u ≡ false

-- a line older than an older one is older
abbrev pub OrderTransitive : Type 0
OrderTransitive = (b : BusState) (t : LineTable) (a u v w : ℕ) → Agrees b t → b.is_older a u v ≡ true
    → b.is_older a v w ≡ true → b.is_older a u w ≡ true

-- of any two one is older
abbrev pub OrderTotal : Type 0
OrderTotal = (b : BusState) (t : LineTable) (a u v : ℕ) → Agrees b t → u ≢ v → is_dirty_line (b.lines u a) ≡ true
    → is_dirty_line (b.lines v a) ≡ true
    → (b.is_older a u v ≡ true) ⊎ (b.is_older a v u ≡ true)

-- committed ones are older than active ones
abbrev pub CommittedFirst : Type 0
CommittedFirst = (b : BusState) (t : LineTable) (a u v : ℕ) → Agrees b t → is_committed_dirty_line (b.lines u a) ≡ true
    → is_some (version_of_line (b.lines v a)) ≡ true → b.is_older a u v ≡ true

-- and active ones are in the order of their tasks
abbrev pub TaskOrder : Type 0
TaskOrder = (b : BusState) (t : LineTable) (a p q : ℕ) → Agrees b t → p < length b.units → q < length b.units
    → is_some (version_of_line (bus_line_at b p a)) ≡ true → is_some (version_of_line (bus_line_at b q a)) ≡ true
    → b.is_older a (get_or b.units p 0) (get_or b.units q 0) ≡ ltb p q
