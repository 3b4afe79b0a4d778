-- What plans say: the supplier of a read, and the lines that a write makes stale.
use Rattle.std.specs.Prelude.{◌≢◌, ℕ, ◌<◌, length, Bool, false, cond, not, ◌&&◌, ◌||◌, ◌==◌, Option, Some, None, List}
use Rattle.std.specs.Prelude.{[], ◌∷◌, ◌++◌, get_or, take, option_map}
use Rattle.std.specs.List.{filter_map, list_any}
use Rattle.svc_base.specs.declared.served.Served.{Served}
use Rattle.svc_base.specs.declared.served.Served.TheVariants.{Hit, Reuse, Version as FromVersion, Spill, Committed}
use Rattle.svc_base.specs.declared.served.Served.TheVariants.{Memory}
use Rattle.svc_line.specs.Bits.{Bits, bits_of, is_dirty, no_bits}
use Rattle.svc_bus_laws.specs.Search.{any_below}
use Rattle.svc_bus_laws.specs.Supplier as bus
use Rattle.svc_bus_laws.specs.BusLine.{BusLine, purged_line}
use Rattle.svc_bus_laws.specs.BusState.{BusState}
use Rattle.svc_bus_laws.specs.BusSteps.{is_below}
use Rattle.svc_vol.specs.declared.held_line.HeldLine.{HeldLine}
use Rattle.svc_vol.specs.Value.{ListValue, held_at, unit_at}
use Rattle.svc_vcl.specs.Listed.{slot_at, nearest_version_in}

-- the supplier by its unit's number
abbrev pub supplier_of : Served → bus.Supplier
supplier_of Hit = bus.Hit
supplier_of Reuse = bus.Reuse
supplier_of (FromVersion unit) = bus.Version unit.0
supplier_of Spill = bus.Spill
supplier_of (Committed unit) = bus.Committed unit.0
supplier_of Memory = bus.Memory

-- one of the lines is in the unit's cache
abbrev pub is_named : List HeldLine → (unit : ℕ) → Bool
is_named lines unit = list_any (λ (held : HeldLine). held.unit.0 == unit) lines

-- no two of the lines are in one cache
pub record AreApart (lines : List HeldLine) : Type 0 where
  pub apart : (i j : ℕ) → i < j → j < length lines → unit_at lines i ≢ unit_at lines j

-- T is newly set on a line that a purge has left: a committed one, or one of a task below the writer's
abbrev pub is_marked_anew : (below : Bool) → Option BusLine → Bool
is_marked_anew below None = false
is_marked_anew below (Some line) = not line.stale && (line.commit || below)

-- a write of the word by the task at a place sets T on the unit's line
abbrev pub becomes_stale : BusState → (place a unit : ℕ) → Bool
becomes_stale b place a unit =
    not (unit == get_or b.units place 0) && is_marked_anew (is_below b place unit) (purged_line (b.lines unit a))

-- T is set if the flag says so
abbrev pub marked_where : Bool → Option BusLine → Option BusLine
marked_where flag None = None
marked_where flag (Some line) = Some (record line { stale = line.stale || flag })

-- the bits of an active line; no bits if there is none
abbrev pub own_bits : Option HeldLine → Bits
own_bits None = no_bits
own_bits (Some held) = bits_of held.line.bits

-- the line is clean, without T
abbrev pub is_fresh_copy : HeldLine → Bool
is_fresh_copy held = not (is_dirty (bits_of held.line.bits)) && not (bits_of held.line.bits).stale

-- the line, if it is clean, without T and in a unit other than the writer's
abbrev pub fresh_beside : (writer : ℕ) → HeldLine → Option HeldLine
fresh_beside writer held = cond (not (held.unit.0 == writer) && is_fresh_copy held) (Some held) None

-- the line in a slot, if T is clear on it
abbrev pub unmarked_line : Option HeldLine → Option HeldLine
unmarked_line None = None
unmarked_line (Some held) = cond (bits_of held.line.bits).stale None (Some held)

-- the committed copies that a write makes stale
abbrev pub copies_in : List HeldLine → (writer : ℕ) → List HeldLine
copies_in committed writer = filter_map (fresh_beside writer) committed

-- the lines of earlier tasks that it makes stale
abbrev pub passed_in : List (Option HeldLine) → List HeldLine
passed_in earlier = filter_map unmarked_line earlier

-- the lines that a write by the unit of the task at a place makes stale
abbrev pub stale_in : ListValue → (writer place : ℕ) → List HeldLine
stale_in list writer place = copies_in list.committed writer ++ passed_in (take place list.active)

-- the version before the written one, if it has T already
abbrev pub relinked_in : Option HeldLine → List HeldLine
relinked_in None = []
relinked_in (Some version) = cond (bits_of version.line.bits).stale (version ∷ []) []

-- all lines of other units that a write changes: those that it makes stale, and the version before the written one,
-- whose link it sets
abbrev pub changed_in : ListValue → (writer place : ℕ) → List HeldLine
changed_in list writer place = stale_in list writer place ++ relinked_in (nearest_version_in list.active place)

-- the unit of a version
abbrev pub unit_in : Option HeldLine → Option ℕ
unit_in = option_map (λ (version : HeldLine). version.unit.0)

-- one of the first n committed versions is a clean line without T in this unit, which is not the writer's
abbrev pub is_copy_of : List HeldLine → (count writer unit : ℕ) → Bool
is_copy_of committed count writer unit =
    any_below count
    (λ i. (not (unit_at committed i == writer) && is_fresh_copy (held_at committed i)) && (unit_at committed i == unit))

-- the slot has a line without T, in this unit
abbrev pub is_unmarked_in : Option HeldLine → (unit : ℕ) → Bool
is_unmarked_in None unit = false
is_unmarked_in (Some version) unit = not (bits_of version.line.bits).stale && (version.unit.0 == unit)

-- one of the first n tasks has an active line without T in this unit
abbrev pub is_passed_in : List (Option HeldLine) → (count unit : ℕ) → Bool
is_passed_in active count unit = any_below count (λ q. is_unmarked_in (slot_at active q) unit)
