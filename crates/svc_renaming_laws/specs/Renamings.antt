-- Units renamed: each gets one new name, and no two the same.
use Rattle.std.specs.Prelude.{◌≡◌, ℕ, ◌==◌, ◌<◌, cond}

-- the new name of each unit, and the unit with each new name
pub record Renaming : Type 0 where
  pub there : ℕ → ℕ
  pub back : ℕ → ℕ

-- of so many units: each function undoes the other, and both keep these units among themselves
pub record IsRenaming (units : ℕ) (r : Renaming) : Type 0 where
  pub returns : (u : ℕ) → r.back (r.there u) ≡ u
  pub reaches : (u : ℕ) → r.there (r.back u) ≡ u
  pub known : (u : ℕ) → u < units → r.there u < units
  pub known_back : (u : ℕ) → u < units → r.back u < units

-- two units swap names
abbrev pub swap : (a b : ℕ) → ℕ → ℕ
swap a b u = cond (u == a) b (cond (u == b) a u)

abbrev pub swapped : (a b : ℕ) → Renaming
swapped a b = record { there = swap a b; back = swap a b }

-- all keep their names
abbrev pub unchanged : Renaming
unchanged = record { there = λ u. u; back = λ u. u }

-- the old names again
abbrev pub undone : Renaming → Renaming
undone r = record { there = r.back; back = r.there }

-- one renaming after another
abbrev pub followed_by : Renaming → Renaming → Renaming
followed_by r s = record { there = λ u. s.there (r.there u); back = λ u. r.back (s.back u) }

-- two units of so many can swap names; and renamings can be undone, and done one after another
abbrev pub SwapsRename : Type 0
SwapsRename = (units a b : ℕ) → a < units → b < units → IsRenaming units (swapped a b)

abbrev pub UnchangedRenames : Type 0
UnchangedRenames = (units : ℕ) → IsRenaming units unchanged

abbrev pub UndoneRenames : Type 0
UndoneRenames = (units : ℕ) (r : Renaming) → IsRenaming units r → IsRenaming units (undone r)

abbrev pub FollowedRenames : Type 0
FollowedRenames =
    (units : ℕ) (r s : Renaming) → IsRenaming units r → IsRenaming units s → IsRenaming units (followed_by r s)
