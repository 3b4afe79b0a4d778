-- Expressions, as GNU's assembler reads them (its manual, "Integer Expressions"): numbers of 64 bits, which wrap, by
-- operators of three ranks. Those of the first one bind closest.
use Rattle.std.specs.Prelude.{ℕ, zero, suc, ◌-◌, ◌%◌, ◌^◌, ◌==◌, nat_lt, List, [], ◌∷◌, length}
use Rattle.std.specs.Prelude.{Option, Some, None, if◌then◌else◌, option_map}
use Rattle.svc_layout.specs.Options.{◌>>=◌}
use Rattle.svc_layout.specs.Layouts.{Layout}
use Rattle.svc_tokens.specs.Characters.{found, past_spaces, name_at, past_name, mark_at}
use Rattle.svc_tokens.specs.Tokens.{Read, number_at}
use Rattle.svc_expressions.specs.Operators.{below_zero, result_of, operator_at}
use Rattle.svc_expressions.specs.declared.expressions.TheConstants.{DEPTH}
use Rattle.svc_expressions.specs.Places.{place_of}

-- what a number and the operators below a rank behind it make, from left to right: each has on its right an operand with
-- the operators of closer ranks behind that; so many operators at most
unfoldable pub operators_on : (List ℕ → Read ℕ) → (most ranks : ℕ) → ℕ → List ℕ → Read ℕ
operators_on operand zero ranks n text = Some (n, text)
operators_on operand (suc k) ranks n text =
    found (operator_at text) (λ o.
    if nat_lt o.0.rank ranks then
    operand o.1 >>= (λ m.
    operators_on operand k o.0.rank m.0 m.1 >>= (λ right.
    operators_on operand k ranks (result_of o.0.does n right.0) right.1))
    else Some (n, text)) (Some (n, text))

-- an operand, and what the operators behind it make, of which each is a character at least
unfoldable pub operators_at : (List ℕ → Read ℕ) → List ℕ → Read ℕ
operators_at operand text = operand text >>= (λ n. operators_on operand (length text) 3 n.0 n.1)

-- a number, or what a name stands for, where names may stand
abbrev pub named_by : Option Layout → List ℕ → Option ℕ
named_by None name = None
named_by (Some d) name = place_of d name

unfoldable pub plain_at : Option Layout → List ℕ → Read ℕ
plain_at names text =
    found (number_at text) (λ n. Some n) (option_map (λ n. (n, past_name text)) (named_by names (name_at text)))

abbrev pub closed_by : ℕ × List ℕ → Read ℕ
closed_by n = option_map (λ rest. (n.0, rest)) (mark_at 41 n.1)

-- an operand: a sign or a ~ and an operand, an expression in parentheses, or a number or a name
abbrev pub operand_from : Option Layout → (List ℕ → Read ℕ) → List ℕ → Read ℕ
operand_from names inner [] = None
operand_from names inner (c ∷ rest) =
    if c == 45 then option_map (λ n. (below_zero n.0, n.1)) (inner rest) else
    if c == 126 then option_map (λ n. (2 ^ 64 - 1 - n.0, n.1)) (inner rest) else
    if c == 43 then inner rest else
    if c == 40 then operators_at inner rest >>= closed_by else
    plain_at names (c ∷ rest)

-- signs and parentheses stand in one another up to a depth
unfoldable pub operand_at : Option Layout → (depth : ℕ) → List ℕ → Read ℕ
operand_at names zero text = None
operand_at names (suc k) text = operand_from names (operand_at names k) (past_spaces text)

unfoldable pub expression_at : Option Layout → List ℕ → Read ℕ
expression_at names text = operators_at (operand_at names DEPTH) text

-- numbers that are added behind something, or taken away
unfoldable pub added_at : List ℕ → Read ℕ
added_at text =
    found (operator_at text) (λ o.
    if o.0.rank == 2 then operators_on (operand_at None DEPTH) (length text) 3 0 text else Some (0, text)) (Some (0, text))

-- a value: the low 32 bits of an expression, which may name labels
unfoldable pub value_at : Layout → List ℕ → Read ℕ
value_at d text = option_map (λ n. (n.0 % 2 ^ 32, n.1)) (expression_at (Some d) text)
