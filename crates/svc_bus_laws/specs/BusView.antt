-- What the state that callers see says, without numbers, of committed values, the versioned map and the supplier of a
-- read.
use Rattle.std.specs.Prelude.{suc, ◌-◌, ℕ, Bool, cond, not, ◌&&◌, ◌||◌, ◌==◌, Option, Some, None, is_some, length}
use Rattle.std.specs.Prelude.{get_or}
use Rattle.std.specs.Option.{option_or}
use Rattle.svc_bus_laws.specs.Search.{least, greatest, all_below, tabulate}
use Rattle.svc_bus_laws.specs.Versioned.{Row, Versioned, Victim, view, victim_answer}
use Rattle.svc_bus_laws.specs.Supplier.{Supplier, Hit, Reuse, Version, Spill, Committed, Memory, by_committed}
use Rattle.svc_bus_laws.specs.Walk.{walk}
use Rattle.svc_bus_laws.specs.BusLine.{BusLine, is_active_line, is_reusable_line, is_committed_dirty_line}
use Rattle.svc_bus_laws.specs.BusLine.{is_exposed_line, value_of_line, version_of_line}
use Rattle.svc_bus_laws.specs.BusState.{BusState}

-- the line of the word in the unit of the task at a place
abbrev pub bus_line_at : BusState → ℕ → ℕ → Option BusLine
bus_line_at b p a = b.lines (get_or b.units p 0) a

-- the unit has a committed dirty line of the word, and none is newer
abbrev pub is_newest_line : BusState → ℕ → ℕ → Bool
is_newest_line b a u =
    is_committed_dirty_line (b.lines u a)
    && all_below b.caches (λ v. not (is_committed_dirty_line (b.lines v a)) || not (b.is_older a u v))

-- the unit of the newest committed dirty line of the word
abbrev pub bus_newest : BusState → ℕ → Option ℕ
bus_newest b a = least b.caches (is_newest_line b a)

-- the value of the unit's line, otherwise the backing word
abbrev pub value_of_unit : BusState → ℕ → Option ℕ → ℕ
value_of_unit b a None = b.backing a
value_of_unit b a (Some u) = value_of_line (b.lines u a)

-- the committed value
abbrev pub bus_committed : BusState → ℕ → ℕ
bus_committed b a = value_of_unit b a (bus_newest b a)

-- the row of the task at a place
abbrev pub bus_row : BusState → ℕ → Row
bus_row b p = record {
  versions = λ a. option_or (version_of_line (bus_line_at b p a)) (cond (p == 0) (b.spill a) None);
  exposed = λ a. not (p == 0) && is_exposed_line (bus_line_at b p a);
}

-- the versioned map that the bus stands for
abbrev pub bus_map : BusState → Versioned
bus_map b = record {
  commits = b.commits;
  committed = bus_committed b;
  rows = tabulate (length b.units) (bus_row b);
}

-- what the task at a place reads, and the victim of its write
abbrev pub bus_view : BusState → ℕ → ℕ → ℕ
bus_view b p a = view (bus_map b) p a

abbrev pub bus_victim : BusState → ℕ → ℕ → Option Victim
bus_victim b p a = victim_answer (bus_map b) p a

-- the version found at a place, otherwise the spilled value, otherwise the committed value
abbrev pub bus_by_version : BusState → ℕ → Option ℕ → Supplier
bus_by_version b a (Some q) = Version (get_or b.units q 0)
bus_by_version b a None = cond (is_some (b.spill a)) Spill (by_committed (bus_newest b a))

-- who supplies the value of a read
abbrev pub bus_supplier : BusState → ℕ → ℕ → Supplier
bus_supplier b p a =
    cond (is_active_line (bus_line_at b p a)) Hit
    (cond (is_reusable_line (bus_line_at b p a)) Reuse
    (bus_by_version b a (greatest p (λ q. is_some (version_of_line (bus_line_at b q a))))))

-- the value that a supplier holds
abbrev pub bus_supplied : BusState → ℕ → ℕ → Supplier → Option ℕ
bus_supplied b p a Hit = Some (value_of_line (bus_line_at b p a))
bus_supplied b p a Reuse = Some (value_of_line (bus_line_at b p a))
bus_supplied b p a (Version u) = Some (value_of_line (b.lines u a))
bus_supplied b p a Spill = b.spill a
bus_supplied b p a (Committed u) = Some (value_of_line (b.lines u a))
bus_supplied b p a Memory = Some (b.backing a)

-- the walk of a write over the lines of the tasks above the writer
abbrev pub bus_walk : BusState → ℕ → ℕ → Option ℕ
bus_walk b p a =
    walk (λ q. is_exposed_line (bus_line_at b q a)) (λ q. is_some (version_of_line (bus_line_at b q a))) (suc p)
    (length b.units - suc p)
