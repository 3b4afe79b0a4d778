-- The rows of an active task's core: where it stands, and its registers.
use Rattle.std.specs.Prelude.{ℕ, ◌+◌, ◌==◌, cond, List, [], ◌∷◌, ◌++◌, codes, decimal, flat_map, slice_index}
use Rattle.std.specs.List.{range_with_len}
use Rattle.svc_core_laws.specs.State.{State, value_of}
use Rattle.svc_text.specs.Rows.{row}

-- the row of the byte address at which a unit's task goes on
abbrev pub pc_row : (unit address : ℕ) → List ℕ
pc_row unit address = row (codes "pc") (unit ∷ address ∷ [])

-- the row of a register of it
abbrev pub register_row : (unit register value : ℕ) → List ℕ
register_row unit register value =
    codes "register,"
    ++ (decimal unit ++ (codes ",x" ++ (decimal register ++ (codes "," ++ (decimal value ++ codes "\n")))))

-- the row of a register that has another value than the task began with
abbrev pub changed_row : (unit register was value : ℕ) → List ℕ
changed_row unit register was value = cond (value == was) [] (register_row unit register value)

-- that of one of x1 to x31, by its place among them; these are the values with which they began
abbrev pub register_row_at : (began : List ℕ) → (unit : ℕ) → State → (place : ℕ) → List ℕ
register_row_at began unit core place =
    changed_row unit (place + 1) (slice_index began place) (value_of core (place + 1))

-- those of all registers that have changed
unfoldable pub register_rows : (began : List ℕ) → (unit : ℕ) → State → List ℕ
register_rows began unit core = flat_map (register_row_at began unit core) (range_with_len 0 31)

-- where the task stands, and its registers that have changed
abbrev pub core_rows : (began : List ℕ) → (unit : ℕ) → State → List ℕ
core_rows began unit core = pc_row unit core.pc ++ register_rows began unit core
