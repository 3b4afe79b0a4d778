-- Who supplies the value of a read.
use Rattle.std.specs.Prelude.{true, false, Bool, ℕ, cond, Option, Some, None, is_some}
use Rattle.svc_bus_laws.specs.Search.{greatest}
use Rattle.svc_bus_laws.specs.LineTable.{LineTable, is_active, is_reusable, version_in, value_in, unit_at, line_at}
use Rattle.svc_bus_laws.specs.LineTable.{newest}

-- the unit's own active line; its own reusable line; the active dirty line of a unit; the spilled value; the committed
-- dirty line of a unit; the backing memory
pub data Supplier : Type 0 where
  Hit : Supplier
  Reuse : Supplier
  Version : ℕ → Supplier
  Spill : Supplier
  Committed : ℕ → Supplier
  Memory : Supplier

-- the newest committed dirty line, otherwise the memory
abbrev pub by_committed : Option ℕ → Supplier
by_committed None = Memory
by_committed (Some u) = Committed u

-- the version found at a place, otherwise the spilled value, otherwise the committed value
abbrev pub by_version : LineTable → ℕ → Option ℕ → Supplier
by_version t a (Some q) = Version (unit_at t q)
by_version t a None = cond (is_some (t.spill a)) Spill (by_committed (newest t a))

-- the first that exists: the unit's own active line, its reusable line, the active dirty line of the greatest task
-- below, the spilled value, the newest committed dirty line, the memory
abbrev pub supplier : LineTable → ℕ → ℕ → Supplier
supplier t p a =
    cond (is_active (line_at t p a)) Hit
    (cond (is_reusable (line_at t p a)) Reuse
    (by_version t a (greatest p (λ q. is_some (version_in (line_at t q a))))))

-- the value that the supplier of a read holds
abbrev pub supplied_value : LineTable → ℕ → ℕ → Supplier → Option ℕ
supplied_value t p a Hit = Some (value_in (line_at t p a))
supplied_value t p a Reuse = Some (value_in (line_at t p a))
supplied_value t p a (Version u) = Some (value_in (t.lines u a))
supplied_value t p a Spill = t.spill a
supplied_value t p a (Committed u) = Some (value_in (t.lines u a))
supplied_value t p a Memory = Some (t.backing a)

-- the supplier is the spilled value
abbrev pub is_spill : Supplier → Bool
is_spill Hit = false
is_spill Reuse = false
is_spill (Version u) = false
is_spill Spill = true
is_spill (Committed u) = false
is_spill Memory = false
