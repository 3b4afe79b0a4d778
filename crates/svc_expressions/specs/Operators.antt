-- The operators of expressions, as GNU's assembler reads them (its manual, "Integer Expressions"): of numbers of 64 bits,
-- which wrap, in three ranks. Those of the first one bind closest.
use Rattle.std.specs.Prelude.{ℕ, ◌+◌, ◌*◌, ◌-◌, ◌/◌, ◌%◌, ◌^◌, ◌==◌, nat_le, nat_lt, Bool, not, List, [], ◌∷◌}
use Rattle.std.specs.Prelude.{Option, Some, None, if◌then◌else◌, bit_and, bit_or, bit_xor}
use Rattle.svc_layout.specs.Options.{◌>>=◌}
use Rattle.svc_expressions.specs.declared.operators.Operation.{Operation}
use Rattle.svc_expressions.specs.declared.operators.Operation.TheVariants as does
use Rattle.svc_expressions.specs.declared.operators.Operator.{Operator}
use Rattle.svc_tokens.specs.Characters.{past_spaces, behind}

-- the sign of 64 bits, what they count without it, and with a sign
abbrev pub is_below : ℕ → Bool
is_below n = nat_le (2 ^ 63) n

abbrev pub below_zero : ℕ → ℕ
below_zero n = (2 ^ 64 - n) % 2 ^ 64

abbrev pub signed_by : Bool → ℕ → ℕ
signed_by negative n = if negative then below_zero n else n

abbrev pub magnitude : ℕ → ℕ
magnitude n = signed_by (is_below n) n

-- GNU's assembler divides by 1 where a divisor is 0
abbrev pub divisor : ℕ → ℕ
divisor n = if n == 0 then 1 else magnitude n

abbrev pub differ : Bool → Bool → Bool
differ a b = if a then not b else b

-- what an operator makes of two numbers: a quotient is rounded to 0, a remainder has the sign of what is divided, a
-- shift to the right takes no account of the sign, and one by 64 or more leaves 0
unfoldable pub result_of : Operation → ℕ → ℕ → ℕ
result_of does.Multiply n m = n * m % 2 ^ 64
result_of does.Divide n m = signed_by (differ (is_below n) (is_below m)) (magnitude n / divisor m)
result_of does.Remainder n m = signed_by (is_below n) (magnitude n % divisor m)
result_of does.ShiftLeft n m = if nat_lt m 64 then n * 2 ^ m % 2 ^ 64 else 0
result_of does.ShiftRight n m = if nat_lt m 64 then n / 2 ^ m else 0
result_of does.Or n m = bit_or n m
result_of does.And n m = bit_and n m
result_of does.ExclusiveOr n m = bit_xor n m
result_of does.Add n m = (n + m) % 2 ^ 64
result_of does.Subtract n m = (n + below_zero m) % 2 ^ 64

-- an operator and what follows it
abbrev pub by : ℕ → Operation → List ℕ → Option (Operator × List ℕ)
by rank operation rest = Some (record { rank = rank; does = operation }, rest)

-- the same where its mark stands twice
abbrev pub twice : ℕ → Operation → List ℕ → Option (Operator × List ℕ)
twice mark operation rest = behind mark rest >>= (λ more. by 0 operation more)

-- the table of operators: * / % << >> bind closest, then | & ^, then + -
abbrev pub operator_from : List ℕ → Option (Operator × List ℕ)
operator_from [] = None
operator_from (c ∷ rest) =
    if c == 42 then by 0 does.Multiply rest else
    if c == 47 then by 0 does.Divide rest else
    if c == 37 then by 0 does.Remainder rest else
    if c == 60 then twice 60 does.ShiftLeft rest else
    if c == 62 then twice 62 does.ShiftRight rest else
    if c == 124 then by 1 does.Or rest else
    if c == 38 then by 1 does.And rest else
    if c == 94 then by 1 does.ExclusiveOr rest else
    if c == 43 then by 2 does.Add rest else
    if c == 45 then by 2 does.Subtract rest else
    None

unfoldable pub operator_at : List ℕ → Option (Operator × List ℕ)
operator_at text = operator_from (past_spaces text)
