-- What version control logic looks for in a version list.
use Rattle.std.specs.Prelude.{ℕ, suc, ◌-◌, Bool, false, ◌&&◌, ◌==◌, ltb, Option, Some, None, List, length, get_or}
use Rattle.std.specs.Prelude.{option_and_then, option_map}
use Rattle.svc_line.specs.Bits.{bits_of, is_dirty, is_exposed, is_reusable}
use Rattle.svc_bus_laws.specs.Search.{least, greatest, any_below}
use Rattle.svc_bus_laws.specs.Walk.{walk}
use Rattle.svc_vol.specs.declared.held_line.HeldLine.{HeldLine}
use Rattle.svc_vol.specs.Value.{held_at, unit_at}

-- the slot of the task at a place: its active line, if it has one
abbrev pub slot_at : List (Option HeldLine) → (place : ℕ) → Option HeldLine
slot_at active place = get_or active place None

-- the slot's task has a version
abbrev pub is_version : Option HeldLine → Bool
is_version None = false
is_version (Some version) = is_dirty (bits_of version.line.bits)

-- the slot's task read the word before it wrote it
abbrev pub is_exposure : Option HeldLine → Bool
is_exposure None = false
is_exposure (Some version) = is_exposed (bits_of version.line.bits)

-- the greatest place below that has a version
abbrev pub nearest_in : List (Option HeldLine) → (place : ℕ) → Option ℕ
nearest_in active place = greatest place (λ q. is_version (slot_at active q))

-- the version of the nearest earlier task that has one
abbrev pub nearest_version_in : List (Option HeldLine) → (place : ℕ) → Option HeldLine
nearest_version_in active place = option_and_then (slot_at active) (nearest_in active place)

-- the nearest place above that has a version, among the first n tasks
abbrev pub next_in : List (Option HeldLine) → (count place : ℕ) → Option ℕ
next_in active count place = least count (λ q. ltb place q && is_version (slot_at active q))

-- the version of the nearest later task that has one
abbrev pub next_version_in : List (Option HeldLine) → (count place : ℕ) → Option HeldLine
next_version_in active count place = option_and_then (slot_at active) (next_in active count place)

-- the walk over the later tasks: it finds one that exposed the word; otherwise one with a version ends it
abbrev pub victim_in : List (Option HeldLine) → (place : ℕ) → Option ℕ
victim_in active place =
    walk (λ q. is_exposure (slot_at active q)) (λ q. is_version (slot_at active q)) (suc place)
    (length active - suc place)

-- among the first n tasks, one above the place has a version
abbrev pub is_overtaken_in : List (Option HeldLine) → (count place : ℕ) → Bool
is_overtaken_in active count place = any_below count (λ q. ltb place q && is_version (slot_at active q))

-- the last committed version that was stored to
abbrev pub newest_in : List HeldLine → Option ℕ
newest_in committed = greatest (length committed) (λ i. is_dirty (bits_of (held_at committed i).line.bits))

-- the newest committed version
abbrev pub newest_version_in : List HeldLine → Option HeldLine
newest_version_in committed = option_map (held_at committed) (newest_in committed)

-- the unit's committed copy, if no later store has overtaken it
abbrev pub reusable_in : List HeldLine → (unit : ℕ) → Option ℕ
reusable_in committed unit =
    least (length committed)
    (λ i. (unit_at committed i == unit) && is_reusable (bits_of (held_at committed i).line.bits))

-- the unit's reusable copy
abbrev pub reusable_copy_in : List HeldLine → (unit : ℕ) → Option HeldLine
reusable_copy_in committed unit = option_map (held_at committed) (reusable_in committed unit)
