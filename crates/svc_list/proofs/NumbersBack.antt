-- A number is read back from its digits.
use Rattle.std.proofs.Common.{◌≡◌, ℕ, ◌^◌, ◌<◌, true, List, [], ◌∷◌, ◌++◌, length, Some, refl, arith, decimal}
use Rattle.svc_tokens.specs.Characters.{is_name, past_blanks, past, name_at, past_name, number_of}
use Rattle.svc_tokens.specs.Tokens.{number_at}
use Rattle.svc_list.proofs.NamesBack.{stops, at_name, at_rest, is_digit, all_digits, digits_dense, numerals}

number_of_decimal : (n : ℕ) → n < 2 ^ 32 → number_of (decimal n) ≡ Some n
number_of_decimal n h = (numerals n (omega arith) h).reads

digits_name : (ds rest : List ℕ) → all_digits ds ≡ true → 0 < length ds → stops rest ≡ true → name_at (ds ++ rest) ≡ ds
digits_name [] rest h k s = absurd (omega (arith, k))
digits_name (c ∷ ds) rest h k s = at_name c ds rest (digits_dense (c ∷ ds) h) s

digits_rest : (ds rest : List ℕ) → all_digits ds ≡ true → 0 < length ds → stops rest ≡ true → past_name (ds ++ rest) ≡ rest
digits_rest [] rest h k s = absurd (omega (arith, k))
digits_rest (c ∷ ds) rest h k s = at_rest c ds rest (digits_dense (c ∷ ds) h) s

-- the name behind a space, which has some characters
pub spaced_name : (n : ℕ) (rest : List ℕ) → n < 2 ^ 32 → stops rest ≡ true → name_at (32 ∷ (decimal n ++ rest)) ≡ decimal n
unfolding past past_blanks
spaced_name n rest h s =
    let facts = numerals n (omega arith) h in
    digits_name (decimal n) rest facts.digits facts.some s

pub decimal_some : (n : ℕ) → n < 2 ^ 32 → 0 < length (decimal n)
decimal_some n h = (numerals n (omega arith) h).some

-- a number
pub number_back : (n : ℕ) (rest : List ℕ) → n < 2 ^ 32 → stops rest ≡ true → number_at (decimal n ++ rest) ≡ Some (n, rest)
unfolding number_at
number_back n rest h s =
    let facts = numerals n (omega arith) h in
    rw (digits_name (decimal n) rest facts.digits facts.some s, digits_rest (decimal n) rest facts.digits facts.some s, number_of_decimal n h) refl

-- no digit is a percent sign, or a mark that an operand may begin with
pub no_percent : is_digit 37 ≡ true → ⊥
unfolding is_name
no_percent h = absurd (cc)

pub no_tilde : is_digit 126 ≡ true → ⊥
unfolding is_name
no_tilde h = absurd (cc)

pub no_plus : is_digit 43 ≡ true → ⊥
unfolding is_name
no_plus h = absurd (cc)

pub no_open : is_digit 40 ≡ true → ⊥
unfolding is_name
no_open h = absurd (cc)
