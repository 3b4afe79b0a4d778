-- The words of which a bus holds something: some unit has a line of them, or they are spilled.
use Rattle.std.specs.Prelude.{◌≡◌, ◌<◌, ℕ, Bool, false, cond, List, Option, None, flat_map, get_or, is_some}
use Rattle.std.specs.List.{list_any, range_with_len}
use Rattle.svc_bus_laws.specs.BusLine.{BusLine}
use Rattle.svc_bus_laws.specs.BusState.{BusState}
use Rattle.svc_held.specs.declared.named.Named.{Named}
use Rattle.svc_held.specs.declared.named.Namers.{Namers}
use Rattle.svc_held.specs.declared.named.Namers.TheVariants as namers
use Rattle.svc_span.specs.declared.span.Span.{Span}
use Rattle.svc_held.specs.Named.{are_some, may_have, named_at}

-- among n words, these have all that is in a line or spilled, and all that is asked for: a line is in a unit that names
-- its word
pub record IsHeldBy (b : BusState) (words : ℕ) (asked : Option Span) (named : List Named) : Type 0 where
  pub marks : List Namers
  pub named_is : named ≡ flat_map (named_at asked marks) (range_with_len 0 words)
  pub lines : (unit word : ℕ) → word < words
      → may_have unit (get_or marks word namers.Nobody) ≡ false → b.lines unit word ≡ None
  pub spill : (word : ℕ) → word < words → are_some (get_or marks word namers.Nobody) ≡ false → b.spill word ≡ None

-- among n words, these have all that is in a line or spilled, whatever else is asked for
abbrev pub HasHeld : BusState → (words : ℕ) → List Named → Type 0
HasHeld b words named = (asked : Option Span) × IsHeldBy b words asked named

-- a named word is one of n, and only a unit that names it has a line of it
pub record HasItsLines (b : BusState) (words : ℕ) (n : Named) : Type 0 where
  pub in_data : n.word.0 < words
  pub lines : (unit : ℕ) → may_have unit n.by ≡ false → b.lines unit n.word.0 ≡ None

-- a unit's line of a named word
abbrev pub line_named : BusState → Named → (unit : ℕ) → Option BusLine
line_named b n unit = cond (may_have unit n.by) (b.lines unit n.word.0) None

-- a unit has a valid line of the named word
abbrev pub is_named_line : BusState → Named → (unit : ℕ) → Bool
is_named_line b n unit = is_some (line_named b n unit)

-- some unit has a valid line of the word
abbrev pub is_cached : BusState → (units word : ℕ) → Bool
is_cached b units word = list_any (λ unit. is_some (b.lines unit word)) (range_with_len 0 units)
