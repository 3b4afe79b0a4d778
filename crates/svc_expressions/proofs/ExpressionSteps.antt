-- Expressions, operator by operator.
use Rattle.std.proofs.Common.{◌≡◌, ℕ, zero, suc, ◌-◌, ◌<◌, nat_lt, List, length, Option, Some, None, refl, sym, arith}
use Rattle.svc_layout.specs.Options.{◌>>=◌}
use Rattle.svc_layout.specs.Layouts.{Layout}
use Rattle.svc_tokens.specs.Characters.{found, past_spaces}
use Rattle.svc_tokens.specs.Tokens.{Read}
use Rattle.svc_expressions.specs.declared.expressions.TheConstants.{DEPTH}
use Rattle.svc_expressions.specs.Operators.{operator_at, result_of}
use Rattle.svc_expressions.specs.Expressions.{operators_on, operators_at, operand_from, operand_at, expression_at}
use Rattle.std.proofs.Common.{if◌then◌else◌}

pub operand_step : (names : Option Layout) (k : ℕ) (text : List ℕ) → 0 < k → operand_at names k text ≡ operand_from names (operand_at names (k - 1)) (past_spaces text)
unfolding operand_at
operand_step names zero text h = absurd (omega (arith, h))
operand_step names (suc k) text h = let e : suc k - 1 ≡ k = omega arith in rw e refl

pub operand_none : (names : Option Layout) (k : ℕ) (text : List ℕ) → k ≡ 0 → operand_at names k text ≡ None
unfolding operand_at
operand_none names zero text h = refl
operand_none names (suc k) text h = absurd (omega (arith, h))

pub operators_step : (operand : List ℕ → Read ℕ) (k ranks n : ℕ) (text : List ℕ) → 0 < k → operators_on operand k ranks n text ≡
    found (operator_at text) (λ o.
    if nat_lt o.0.rank ranks then
    operand o.1 >>= (λ m. operators_on operand (k - 1) o.0.rank m.0 m.1 >>= (λ right. operators_on operand (k - 1) ranks (result_of o.0.does n right.0) right.1))
    else Some (n, text)) (Some (n, text))
unfolding operators_on
operators_step operand zero ranks n text h = absurd (omega (arith, h))
operators_step operand (suc k) ranks n text h = let e : suc k - 1 ≡ k = omega arith in rw e refl

-- where no operator is left to read, the number so far is the whole
pub operators_done : (operand : List ℕ → Read ℕ) (k ranks n : ℕ) (text : List ℕ) (whole : Option (ℕ × List ℕ)) → k ≡ 0 → operators_on operand k ranks n text ≡ whole → whole ≡ Some (n, text)
unfolding operators_on
operators_done operand zero ranks n text whole none same = sym same
operators_done operand (suc k) ranks n text whole none same = absurd (omega (arith, none))

pub operators_over : (operand : List ℕ → Read ℕ) (k ranks n : ℕ) (text : List ℕ) → operator_at text ≡ None → operators_on operand k ranks n text ≡ Some (n, text)
unfolding operators_on
operators_over operand zero ranks n text h = refl
operators_over operand (suc k) ranks n text h = rw h refl

-- an operand that no operator follows is an expression
pub alone : (names : Option Layout) (text rest : List ℕ) (n : ℕ) → operand_at names DEPTH text ≡ Some (n, rest) → operator_at rest ≡ None → expression_at names text ≡ Some (n, rest)
unfolding expression_at operators_at
alone names text rest n h k = rw (h, operators_over (operand_at names DEPTH) (length text) 3 n rest k) refl
