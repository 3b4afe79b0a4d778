-- Numbers: expressions without names, within bounds.
use Rattle.std.specs.Prelude.{ℕ, ◌-◌, ◌^◌, nat_lt, true, false, List, Option, Some, None, if◌then◌else◌}
use Rattle.svc_layout.specs.Options.{◌>>=◌}
use Rattle.svc_expressions.specs.declared.signed.Signed.{Signed}
use Rattle.svc_tokens.specs.Tokens.{Read}
use Rattle.svc_expressions.specs.Expressions.{expression_at}

-- a number below a bound
abbrev pub below : ℕ → ℕ × List ℕ → Read ℕ
below most n = if nat_lt n.0 most then Some n else None

unfoldable pub number_below : ℕ → List ℕ → Read ℕ
number_below most text = expression_at None text >>= below most

-- 64 bits as a number of at most 32 bits and a sign
unfoldable pub signed_of : ℕ → Option Signed
signed_of n =
    if nat_lt n (2 ^ 32) then Some (record { negative = false; magnitude = n }) else
    if nat_lt (2 ^ 64 - n) (2 ^ 32) then Some (record { negative = true; magnitude = 2 ^ 64 - n }) else
    None

unfoldable pub signed_at : List ℕ → Read Signed
signed_at text = do
  n ← expression_at None text
  s ← signed_of n.0
  Some (s, n.1)
