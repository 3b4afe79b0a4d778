-- Numbers with their signs.
use Rattle.std.specs.Prelude.{ℕ, ◌-◌, ◌%◌, ◌^◌, if◌then◌else◌}
use Rattle.svc_expressions.specs.declared.signed.Signed.{Signed}

-- a number with its sign, as 32 bits
abbrev pub bits_of : Signed → ℕ
bits_of s = if s.negative then (2 ^ 32 - s.magnitude) % 2 ^ 32 else s.magnitude
