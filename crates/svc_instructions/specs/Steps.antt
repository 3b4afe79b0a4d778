-- How far it is from one address to another, in so many bits and in steps of two bytes.
use Rattle.std.specs.Prelude.{Option, Some, None, ℕ, ◌*◌, ◌-◌, ◌/◌, ◌%◌, ◌==◌, nat_le, nat_lt, if◌then◌else◌, true, false}
use Rattle.svc_layout.specs.Options.{◌>>=◌}
use Rattle.svc_expressions.specs.declared.signed.Signed.{Signed}

-- a number of so many bits with its sign, half of whose range is below 0
abbrev pub signed_bits : ℕ → Signed → Option ℕ
signed_bits half s =
    if s.negative then if nat_le s.magnitude half then Some (2 * half - s.magnitude) else None
    else if nat_lt s.magnitude half then Some s.magnitude else None

-- half of an offset, which is even
abbrev pub half_of : Signed → Option Signed
half_of s = if s.magnitude % 2 == 0 then Some (record { negative = s.negative; magnitude = s.magnitude / 2 }) else None

-- how many steps of two bytes an offset has, as such a number
unfoldable pub steps_of : (half : ℕ) → Signed → Option ℕ
steps_of half s = do
  h ← half_of s
  signed_bits half h

-- how far it is from one address to another
abbrev pub distance : ℕ → ℕ → Signed
distance from to =
    if nat_le from to then record { negative = false; magnitude = to - from }
    else record { negative = true; magnitude = from - to }
