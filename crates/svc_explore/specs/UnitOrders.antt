-- Orders of all units.
use Rattle.std.specs.Prelude.{ℕ, List}
use Rattle.svc_base.specs.declared.ids.UnitId.{UnitId}
use Rattle.svc_observations.specs.Rosters.{unit_numbers}
use Rattle.svc_renaming_laws.specs.Orders.{IsOrder}

-- where the first list is an order of all units, so is the second one
abbrev pub KeepsOrders : List UnitId → List UnitId → Type 0
KeepsOrders old new = (n : ℕ) → IsOrder n (unit_numbers old) → IsOrder n (unit_numbers new)
