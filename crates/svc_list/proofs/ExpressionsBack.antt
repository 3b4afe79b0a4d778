-- A number is read back as an expression, where no operator follows it.
use Rattle.std.proofs.Common.{◌≡◌, ℕ, suc, ◌+◌, ◌-◌, ◌%◌, ◌^◌, ◌<◌, true, false, ◌==◌, nat_lt, List, [], ◌∷◌, ◌++◌, length, Option, Some, None, refl, ap, ◌∙◌, subst, inl, inr, arith, decimal}
use Rattle.std.proofs.lemmas.Bool.{cases_eq, ne_eqb, le-leb, lt-leb}
use Rattle.std.specs.Prelude.{option_map}
use Rattle.svc_layout.specs.Layouts.{Layout}
use Rattle.svc_tokens.specs.Characters.{past_blanks, past_spaces}
use Rattle.svc_tokens.specs.Tokens.{Read}
use Rattle.svc_expressions.specs.Operators.{operator_at, result_of, below_zero}
use Rattle.svc_expressions.specs.Expressions.{added_at, operators_on, plain_at, operand_from, operand_at, expression_at}
use Rattle.svc_expressions.specs.Numbers.{number_below, signed_of, signed_at}
use Rattle.svc_expressions.proofs.ExpressionSteps.{alone, operators_over}
use Rattle.svc_list.proofs.NamesBack.{stops, no_slash, no_space, is_digit, all_digits, first_digit, digits_dense, digit_no_minus, numerals}
use Rattle.svc_list.proofs.NumbersBack.{number_back, no_tilde, no_plus, no_open}

-- no digit is one of the marks that an operand may begin with
other_mark : (m : ℕ) → (is_digit m ≡ true → ⊥) → (c : ℕ) → is_digit c ≡ true → (c == m) ≡ false
other_mark m none c h = elim (cases_eq c m) [ inl same ↦ absurd (none (subst (λ (x : ℕ). is_digit x ≡ true) same h)) | inr other ↦ ne_eqb c m other ]

from_digits : (names : Option Layout) (inner : List ℕ → Read ℕ) (ds rest : List ℕ) → all_digits ds ≡ true → 0 < length ds → operand_from names inner (past_spaces (ds ++ rest)) ≡ plain_at names (ds ++ rest)
from_digits names inner [] rest h k = absurd (omega (arith, k))
from_digits names inner (c ∷ ds) rest h k =
    let here = no_space c ds rest (digits_dense (c ∷ ds) h) in
    let d = first_digit c ds h in
    ap (operand_from names inner) here
    ∙ rw (digit_no_minus c d, other_mark 126 no_tilde c d, other_mark 43 no_plus c d, other_mark 40 no_open c d) refl

plain_back : (names : Option Layout) (n : ℕ) (rest : List ℕ) → n < 2 ^ 32 → stops rest ≡ true → plain_at names (decimal n ++ rest) ≡ Some (n, rest)
unfolding plain_at
plain_back names n rest h s = rw (number_back n rest h s) refl

pub operand_back : (names : Option Layout) (k n : ℕ) (rest : List ℕ) → n < 2 ^ 32 → stops rest ≡ true → operand_at names (suc k) (decimal n ++ rest) ≡ Some (n, rest)
unfolding operand_at
operand_back names k n rest h s =
    let facts = numerals n (omega arith) h in
    from_digits names (operand_at names k) (decimal n) rest facts.digits facts.some ∙ plain_back names n rest h s

pub spaced_operand_back : (names : Option Layout) (k n : ℕ) (rest : List ℕ) → n < 2 ^ 32 → stops rest ≡ true → operand_at names (suc k) (32 ∷ (decimal n ++ rest)) ≡ Some (n, rest)
unfolding operand_at past_blanks
spaced_operand_back names k n rest h s =
    let facts = numerals n (omega arith) h in
    from_digits names (operand_at names k) (decimal n) rest facts.digits facts.some ∙ plain_back names n rest h s

pub spaced_expression_back : (names : Option Layout) (n : ℕ) (rest : List ℕ) → n < 2 ^ 32 → stops rest ≡ true → operator_at rest ≡ None → expression_at names (32 ∷ (decimal n ++ rest)) ≡ Some (n, rest)
spaced_expression_back names n rest h s q = alone names (32 ∷ (decimal n ++ rest)) rest n (spaced_operand_back names 31 n rest h s) q

pub count_back : (most n : ℕ) (rest : List ℕ) → n < most → n < 2 ^ 32 → stops rest ≡ true → operator_at rest ≡ None → number_below most (32 ∷ (decimal n ++ rest)) ≡ Some (n, rest)
unfolding number_below
count_back most n rest h k s q =
    let fits : nat_lt n most ≡ true = le-leb (suc n) most h in
    rw (spaced_expression_back None n rest k s q, fits) refl

-- a number with a minus sign
minus_front : (text : List ℕ) → past_spaces (32 ∷ 45 ∷ text) ≡ 45 ∷ text
unfolding past_blanks
minus_front text = rw (no_slash 45 text refl) refl

minus_operand : (names : Option Layout) (k n : ℕ) (rest : List ℕ) → n < 2 ^ 32 → stops rest ≡ true → operand_at names (suc (suc k)) (32 ∷ 45 ∷ (decimal n ++ rest)) ≡ Some (below_zero n, rest)
unfolding operand_at
minus_operand names k n rest h s =
    ap (operand_from names (operand_at names (suc k))) (minus_front (decimal n ++ rest))
    ∙ ap (λ (o : Option (ℕ × List ℕ)). option_map (λ m. (below_zero m.0, m.1)) o) (operand_back names k n rest h s)

pub signed_low : (n : ℕ) → n < 2 ^ 32 → signed_of n ≡ Some (record { negative = false; magnitude = n })
unfolding signed_of
signed_low n h = let low : nat_lt n (2 ^ 32) ≡ true = le-leb (suc n) (2 ^ 32) (omega (arith, h)) in rw low refl

pub signed_high : (n : ℕ) → 0 < n → n < 2 ^ 32 → signed_of (below_zero n) ≡ Some (record { negative = true; magnitude = n })
unfolding signed_of
signed_high n some h =
    let is : below_zero n ≡ 2 ^ 64 - n = omega (arith, some, h) in
    let high : nat_lt (2 ^ 64 - n) (2 ^ 32) ≡ false = lt-leb (suc (2 ^ 64 - n)) (2 ^ 32) (omega (arith, h)) in
    let back : 2 ^ 64 - (2 ^ 64 - n) ≡ n = omega (arith, h) in
    let low : nat_lt n (2 ^ 32) ≡ true = le-leb (suc n) (2 ^ 32) (omega (arith, h)) in
    rw (is, high, back, low) refl

pub signed_back : (n : ℕ) (rest : List ℕ) → n < 2 ^ 32 → stops rest ≡ true → operator_at rest ≡ None → signed_at (32 ∷ (decimal n ++ rest)) ≡ Some (record { negative = false; magnitude = n }, rest)
unfolding signed_at
signed_back n rest h s q = rw (spaced_expression_back None n rest h s q, signed_low n h) refl

pub minus_back : (n : ℕ) (rest : List ℕ) → 0 < n → n < 2 ^ 32 → stops rest ≡ true → operator_at rest ≡ None → signed_at (32 ∷ 45 ∷ (decimal n ++ rest)) ≡ Some (record { negative = true; magnitude = n }, rest)
unfolding signed_at
minus_back n rest some h s q =
    rw (alone None (32 ∷ 45 ∷ (decimal n ++ rest)) rest (below_zero n) (minus_operand None 30 n rest h s) q, signed_high n some h) refl

-- a number that is added to 0, or taken away
pub plus_back : (n : ℕ) (rest : List ℕ) → n < 2 ^ 32 → stops rest ≡ true → operator_at rest ≡ None → added_at (32 ∷ 43 ∷ 32 ∷ (decimal n ++ rest)) ≡ Some (n, rest)
unfolding added_at operators_on operator_at result_of past_blanks
plus_back n rest h s q =
    let left = suc (suc (length (decimal n ++ rest))) in
    let is : (0 + n) % 2 ^ 64 ≡ n = omega (arith, h) in
    rw (spaced_operand_back None 31 n rest h s, operators_over (operand_at None 32) left 2 n rest q, is, operators_over (operand_at None 32) left 3 n rest q) refl

pub less_back : (n : ℕ) (rest : List ℕ) → n < 2 ^ 32 → stops rest ≡ true → operator_at rest ≡ None → added_at (32 ∷ 45 ∷ 32 ∷ (decimal n ++ rest)) ≡ Some (below_zero n, rest)
unfolding added_at operators_on operator_at result_of past_blanks
less_back n rest h s q =
    let left = suc (suc (length (decimal n ++ rest))) in
    let is : (0 + below_zero n) % 2 ^ 64 ≡ below_zero n = omega arith in
    rw (spaced_operand_back None 31 n rest h s, operators_over (operand_at None 32) left 2 n rest q, is, operators_over (operand_at None 32) left 3 (below_zero n) rest q) refl
