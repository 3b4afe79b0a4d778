-- Immediates: numbers that fit, and the parts of values and of distances.
use Rattle.std.specs.Prelude.{ℕ, ◌*◌, ◌+◌, ◌/◌, ◌%◌, ◌^◌, nat_le, nat_lt, List, Option, Some, None, if◌then◌else◌}
use Rattle.std.specs.Prelude.{option_map, codes}
use Rattle.std.specs.Str.{bytes_eq}
use Rattle.svc_layout.specs.Options.{◌>>=◌}
use Rattle.svc_layout.specs.Layouts.{Layout}
use Rattle.svc_layout.specs.Places.{here}
use Rattle.svc_layout.specs.Addresses.{distance_from}
use Rattle.svc_tokens.specs.Characters.{found, name_at, past_name, mark_at}
use Rattle.svc_tokens.specs.Tokens.{Read}
use Rattle.svc_expressions.specs.declared.signed.Signed.{Signed}
use Rattle.svc_expressions.specs.Signed.{bits_of}
use Rattle.svc_expressions.specs.Places.{place_of}
use Rattle.svc_expressions.specs.Expressions.{value_at}
use Rattle.svc_expressions.specs.Numbers.{number_below, signed_at}
use Rattle.svc_instructions.specs.Steps.{distance, signed_bits}

-- the 32 bits of a number of so many that has room, of which half may be below 0
unfoldable pub bits_within : (half : ℕ) → Signed → Option ℕ
bits_within half s =
    if s.negative then if nat_le s.magnitude half then Some (bits_of s) else None
    else if nat_lt s.magnitude (2 * half) then Some s.magnitude else None

-- a value of 32 bits in two parts, for two instructions: its low part counts with a sign, so the high part is one more
-- where that is below 0
abbrev pub high_part : ℕ → ℕ
high_part n = (n + 2048) / 4096 % 2 ^ 20

-- how far it is from here to an address, as 32 bits
abbrev pub from_here : Layout → ℕ → ℕ
from_here d n = bits_of (distance (here d) n)

-- a value in parentheses
unfoldable pub enclosed_at : Layout → List ℕ → Read ℕ
enclosed_at d text = do
  inside ← mark_at 40 text
  n ← value_at d inside
  rest ← mark_at 41 n.1
  Some (n.0, rest)

-- behind a percent sign: pcrel_hi(VALUE), and how far it is from here to the value
unfoldable pub relative_at : Layout → List ℕ → Read ℕ
relative_at d text =
    if bytes_eq (name_at text) (codes "pcrel_hi") then option_map (λ n. (from_here d n.0, n.1))
    (enclosed_at d (past_name text)) else None

-- behind a percent sign: hi(VALUE), or pcrel_hi(VALUE)
unfoldable pub high_at : Layout → List ℕ → Read ℕ
high_at d text =
    if bytes_eq (name_at text) (codes "hi") then option_map (λ n. (high_part n.0, n.1))
    (enclosed_at d (past_name text)) else
    option_map (λ n. (high_part n.0, n.1)) (relative_at d text)

-- how far it is from the instruction with %pcrel_hi that a name is the label of to that one's value
unfoldable pub distance_named : Layout → List ℕ → Option ℕ
distance_named d name = do
  place ← place_of d name
  distance_from d place

-- such a label in parentheses
unfoldable pub completed_at : Layout → List ℕ → Read ℕ
completed_at d text = do
  inside ← mark_at 40 text
  n ← distance_named d (name_at inside)
  rest ← mark_at 41 (past_name inside)
  Some (n, rest)

-- behind a percent sign: lo(VALUE), or pcrel_lo(LABEL)
unfoldable pub low_at : Layout → List ℕ → Read ℕ
low_at d text =
    if bytes_eq (name_at text) (codes "lo") then option_map (λ n. (n.0 % 2 ^ 12, n.1))
    (enclosed_at d (past_name text)) else
    if bytes_eq (name_at text) (codes "pcrel_lo") then option_map (λ n. (n.0 % 2 ^ 12, n.1))
    (completed_at d (past_name text)) else
    None

-- a number of 12 bits with its sign
unfoldable pub number_short_at : List ℕ → Read ℕ
number_short_at text = do
  s ← signed_at text
  n ← signed_bits 2048 s.0
  Some (n, s.1)

-- an immediate: a number that fits, or the part of a value
unfoldable pub short_at : Layout → List ℕ → Read ℕ
short_at d text = found (mark_at 37 text) (λ part. low_at d part) (number_short_at text)

unfoldable pub upper_at : Layout → List ℕ → Read ℕ
upper_at d text = found (mark_at 37 text) (λ part. high_at d part) (number_below (2 ^ 20) text)
