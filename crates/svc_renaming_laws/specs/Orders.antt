-- Units that go by their places in a list.
use Rattle.std.specs.Prelude.{◌≡◌, ℕ, ◌<◌, List, length, get_or, slice_get, unwrap_or}
use Rattle.svc_machine_laws.specs.Events.{place_in}
use Rattle.svc_renaming_laws.specs.Renamings.{Renaming, IsRenaming}

-- a list of so many units, and no one twice
pub record IsOrder (units : ℕ) (us : List ℕ) : Type 0 where
  pub count : length us ≡ units
  pub known : (p : ℕ) → p < units → get_or us p 0 < units
  pub distinct : (p q : ℕ) → p < units → q < units → get_or us p 0 ≡ get_or us q 0 → p ≡ q

-- the new name of each unit is its place in the list; what isn't a unit keeps its name
abbrev pub by_order : List ℕ → Renaming
by_order us = record { there = λ u. unwrap_or (place_in us u) u; back = λ p. unwrap_or (slice_get us p) p }

-- each such list is a renaming
abbrev pub OrdersRename : Type 0
OrdersRename = (units : ℕ) (us : List ℕ) → IsOrder units us → IsRenaming units (by_order us)
