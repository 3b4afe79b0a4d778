-- The numbers of tasks as code keeps them.
use Rattle.std.specs.Prelude.{ℕ, ◌+◌, List, [], ◌∷◌, length, map, Option, None, Some, unwrap_or}
use Rattle.svc_base.specs.declared.ids.UnitId.{UnitId}
use Rattle.svc_machine_laws.specs.PlainMachine.{Task}
use Rattle.svc_machine_laws.specs.Events.{place_in}
use Rattle.svc_explore_laws.specs.Observations.{Numbers}
use Rattle.svc_observations.specs.declared.roster.Roster.{Roster}

abbrev pub unit_numbers : List UnitId → List ℕ
unit_numbers units = map (λ (u : UnitId). u.0) units

-- the unit of a task, where there is one
abbrev pub unit_told : Option Task → List ℕ
unit_told None = []
unit_told (Some t) = t.unit ∷ []

-- so many tasks are committed, and these units have the active ones, the oldest first
abbrev pub numbers_with : (head : ℕ) → (units : List UnitId) → Numbers
numbers_with head units =
    record { head = head; of_unit = λ unit. head + unwrap_or (place_in (unit_numbers units) unit) (length units) }

-- the numbers that a roster gives
abbrev pub numbers_in : Roster → Numbers
numbers_in r = numbers_with r.head r.units.items
