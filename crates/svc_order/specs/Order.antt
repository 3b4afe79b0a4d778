-- The order of the active tasks, as the numbers of their units.
use Rattle.std.specs.Prelude.{◌≡◌, ℕ, ◌<◌, List, map, length, get_or}
use Rattle.svc_base.specs.declared.ids.UnitId.{UnitId}

-- the numbers of units
abbrev pub numbers : List UnitId → List ℕ
numbers units = map (λ (unit : UnitId). unit.0) units

-- no number stands in the list twice
pub record StandsOnce (numbers : List ℕ) : Type 0 where
  pub once : (p q : ℕ) → p < length numbers → q < length numbers → get_or numbers p 0 ≡ get_or numbers q 0 → p ≡ q
