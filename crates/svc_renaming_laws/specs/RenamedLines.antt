-- A line table whose units are renamed.
use Rattle.std.specs.Prelude.{map}
use Rattle.svc_bus_laws.specs.LineTable.{LineTable}
use Rattle.svc_bus_laws.specs.Supplier.{Supplier, Hit, Reuse, Version, Spill, Committed, Memory}
use Rattle.svc_renaming_laws.specs.Renamings.{Renaming}

-- each unit's cache goes by the unit's new name, and so do the units of the active tasks; spilled words, memory and
-- commits have no unit
abbrev pub renamed_lines : Renaming → LineTable → LineTable
renamed_lines r t = record t { lines = λ u a. t.lines (r.back u) a; units = map r.there t.units }

-- a supplier by its new name
abbrev pub renamed_supplier : Renaming → Supplier → Supplier
renamed_supplier r Hit = Hit
renamed_supplier r Reuse = Reuse
renamed_supplier r (Version u) = Version (r.there u)
renamed_supplier r Spill = Spill
renamed_supplier r (Committed u) = Committed (r.there u)
renamed_supplier r Memory = Memory
