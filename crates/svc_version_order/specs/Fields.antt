-- How a line is named in the order of a word's versions.
use Rattle.std.specs.Prelude.{ℕ, List, ◌++◌, codes, decimal, flat_map}
use Rattle.svc_base.specs.declared.ids.UnitId.{UnitId}

-- a unit's line of a committed task
abbrev pub committed_field : (unit : ℕ) → List ℕ
committed_field unit = codes "," ++ (decimal unit ++ codes ":committed")

-- those of these units
abbrev pub committed_fields : List UnitId → List ℕ
committed_fields units = flat_map (λ (unit : UnitId). committed_field unit.0) units

-- a unit's line of its active task, which has this number
abbrev pub active_field : (unit number : ℕ) → List ℕ
active_field unit number = codes "," ++ (decimal unit ++ (codes ":" ++ decimal number))
