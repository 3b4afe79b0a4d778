-- What the calls of a bus ask of their callers, and what they answer.
use Rattle.std.specs.Prelude.{◌≡◌, ℕ, ◌<◌, cond, Option, Some, None, length, get_or, option_map}
use Rattle.svc_base.specs.declared.refusal.Refusal.{Refusal}
use Rattle.svc_base.specs.declared.refusal.Refusal.TheVariants as refusal
use Rattle.svc_line.specs.Bits.{bits_of}
use Rattle.svc_line.specs.declared.bits.LineBits.{LineBits}
use Rattle.svc_bus_laws.specs.Versioned as map
use Rattle.svc_bus_laws.specs.BusLine.{BusLine}
use Rattle.svc_bus_laws.specs.BusState.{BusState, Agrees}
use Rattle.svc_bus_laws.specs.LineTable.{LineTable, unit_at}
use Rattle.svc_bus_laws.specs.Refusals.{bus_cache, set_full, is_not_resident, is_pinned}
use Rattle.svc_vcl.specs.Described.{line_with}
use Rattle.svc_bus.specs.declared.victim.Victim.{Victim}

-- the unit runs the task at this place
pub record IsAt (b : BusState) (unit place : ℕ) : Type 0 where
  pub within : place < length b.units
  pub unit_is : get_or b.units place 0 ≡ unit

-- the unit has a task
abbrev pub IsAtWork : BusState → (unit : ℕ) → Type 0
IsAtWork b unit = (place : ℕ) × IsAt b unit place

-- the bus agrees with the line table, in which the unit runs the task at this place
pub record RunsAt (b : BusState) (unit : ℕ) (t : LineTable) (place : ℕ) : Type 0 where
  pub agrees : Agrees b t
  pub within : place < length t.units
  pub unit_is : unit_at t place ≡ unit

-- a full set refuses a read or a write, and names the word to replace first
abbrev pub full_refusal : BusState → (unit word : ℕ) → Option Refusal
full_refusal b unit word =
    option_map (λ named. refusal.SetFull (record { 0 = named })) (set_full (bus_cache b unit) word)

-- why a replacement of the word by the unit is refused, if it is
abbrev pub replace_refusal : BusState → (unit word : ℕ) → Option Refusal
replace_refusal b unit word =
    cond (is_not_resident (bus_cache b unit) word) (Some refusal.NotResident)
    (cond (is_pinned (bus_cache b unit) b.units unit word) (Some refusal.Pinned) None)

-- a victim as a write answers it
abbrev pub victim_shown : Victim → map.Victim
victim_shown v = record { first = v.first.0; tasks = v.tasks }

-- the line of bits and a value
abbrev pub line_shown : LineBits × ℕ → BusLine
line_shown line = line_with line.1 (bits_of line.0)
