-- Spans of numbers.
use Rattle.std.specs.Prelude.{ℕ, Bool, false, ◌&&◌, nat_le, Option, None, Some}
use Rattle.svc_span.specs.declared.span.Span.{Span}

-- the number lies between its ends, or is one of them
abbrev pub in_span : Span → (number : ℕ) → Bool
in_span s number = nat_le s.first number && nat_le number s.last

-- there is a span, and the number is in it
abbrev pub is_asked : Option Span → (number : ℕ) → Bool
is_asked None number = false
is_asked (Some s) number = in_span s number
