-- Operands are read back from their text.
use Rattle.std.proofs.Common.{◌≡◌, ℕ, suc, ◌-◌, ◌*◌, ◌/◌, ◌%◌, ◌^◌, ◌<◌, ◌≤◌, Bool, true, false, ◌==◌, nat_lt, nat_le, List, [], ◌∷◌, ◌++◌, length, Some, None, refl, ap, ◌∙◌, subst, inl, inr, arith, decimal}
use Rattle.std.proofs.lemmas.Bool.{le-leb, lt-leb, cases_lt, cases_eq, ne_eqb}
use Rattle.std.proofs.lemmas.List.{append_assoc}
use Rattle.svc_rv32i.specs.declared.instr.Register.{Register}
use Rattle.svc_rv32i.specs.Meaning.{register}
use Rattle.svc_expressions.specs.declared.signed.Signed.{Signed}
use Rattle.svc_tokens.specs.Characters.{is_name, past_blanks, past, behind, mark_at, value_on, long_of, value_of}
use Rattle.svc_layout.specs.Layouts.{Layout}
use Rattle.svc_tokens.specs.Names.{x_number, register_named}
use Rattle.svc_tokens.specs.Tokens.{register_at, first_register_at}
use Rattle.svc_instructions.specs.Steps.{signed_bits, half_of, steps_of}
use Rattle.svc_expressions.specs.Operators.{operator_at}
use Rattle.svc_expressions.specs.Numbers.{number_below}
use Rattle.svc_instructions.specs.Immediates.{number_short_at}
use Rattle.svc_expressions.specs.Expressions.{value_at}
use Rattle.svc_instructions.specs.Immediates.{short_at, upper_at}
use Rattle.svc_instructions.specs.Offsets.{offset_from, offset_at, target_at}
use Rattle.svc_list.proofs.NumbersBack.{no_percent}
use Rattle.svc_list.proofs.ExpressionsBack.{spaced_expression_back, count_back, signed_low, signed_high, signed_back, minus_back, plus_back, less_back}
use Rattle.svc_list.specs.Listings.{register_text, first_text, short_text, offset_text, upper_text}
use Rattle.svc_rv32i.proofs.Same.{same_register}
use Rattle.svc_list.proofs.NamesBack.{all_dense, stops, Ends, at_name, at_rest, no_slash, no_space, is_digit, all_digits, first_digit, digits_dense, numerals}

-- a value, behind which the line ends
pub spaced_value_back : (d : Layout) (n : ℕ) (rest tail : List ℕ) → n < 2 ^ 32 → Ends rest tail → value_at d (32 ∷ (decimal n ++ rest)) ≡ Some (n, rest)
unfolding value_at
spaced_value_back d n rest tail h e =
    let small : n % 2 ^ 32 ≡ n = omega (arith, h) in
    rw (spaced_expression_back (Some d) n rest h e.stop e.no_sign, small) refl

long_is : (ds : List ℕ) → 0 < length ds → long_of 10 ds ≡ value_on 10 0 ds
long_is [] h = absurd (omega (arith, h))
long_is (c ∷ ds) h = refl

-- a number of 32 bits from its digits
value_is : (ds : List ℕ) (n : ℕ) → n < 2 ^ 32 → long_of 10 ds ≡ Some n → value_of 10 ds ≡ Some n
unfolding value_of
value_is ds n h is = let small : nat_lt n (2 ^ 32) ≡ true = le-leb (suc n) (2 ^ 32) (omega (arith, h)) in rw (is, small) refl

-- a register
register_is : (r : Register) → register r.number ≡ r
unfolding register
register_is r = same_register (register r.number) r (omega (arith, r.in_range))

named_back : (r : Register) → register_named (120 ∷ decimal r.number) ≡ Some r
unfolding register_named x_number
named_back r =
    let facts = numerals r.number (omega (arith, r.in_range)) (omega (arith, r.in_range)) in
    let small : nat_lt r.number 32 ≡ true = le-leb (suc r.number) 32 (omega (arith, r.in_range)) in
    let long : long_of 10 (decimal r.number) ≡ Some r.number = long_is (decimal r.number) facts.some ∙ facts.value in
    let value = value_is (decimal r.number) r.number (omega (arith, r.in_range)) long in
    rw (value, small) (ap Some (register_is r))

pub register_back : (r : Register) (rest : List ℕ) → stops rest ≡ true → register_at (register_text r ++ rest) ≡ Some (r, rest)
unfolding register_at is_name
register_back r rest s =
    let facts = numerals r.number (omega (arith, r.in_range)) (omega (arith, r.in_range)) in
    let dense : all_dense (120 ∷ decimal r.number) ≡ true = digits_dense (decimal r.number) facts.digits in
    rw (at_name 120 (decimal r.number) rest dense s, at_rest 120 (decimal r.number) rest dense s, named_back r) refl

pub spaced_register_back : (r : Register) (rest : List ℕ) → stops rest ≡ true → register_at (32 ∷ (register_text r ++ rest)) ≡ Some (r, rest)
unfolding register_at past past_blanks
spaced_register_back r rest s = register_back r rest s

pub first_back : (r : Register) (rest : List ℕ) → first_register_at (first_text r ++ rest) ≡ Some (r, rest)
unfolding first_register_at past past_blanks is_name
first_back r rest =
    rw (append_assoc (register_text r) (44 ∷ []) rest, spaced_register_back r (44 ∷ rest) refl, no_slash 44 rest refl) refl

-- what a sign, and the number behind it, are read as
abbrev pub sign : Bool → ℕ → Signed
sign negative n = record { negative = negative; magnitude = n }

pub wrapped_low : (half n : ℕ) → n < half → signed_bits half (sign false n) ≡ Some n
wrapped_low half n h = let low : nat_lt n half ≡ true = le-leb (suc n) half (omega (arith, h)) in rw low refl

pub wrapped_high : (half n : ℕ) → half ≤ n → n < 2 * half → signed_bits half (sign true (2 * half - n)) ≡ Some n
wrapped_high half n h k =
    let most : nat_le (2 * half - n) half ≡ true = le-leb (2 * half - n) half (omega (arith, h, k)) in
    let back : 2 * half - (2 * half - n) ≡ n = omega (arith, h, k) in
    rw (most, back) refl

-- digits are no percent sign
digit_no_percent : (c : ℕ) → is_digit c ≡ true → (c == 37) ≡ false
unfolding is_name
digit_no_percent c h = elim (cases_eq c 37) [ inl same ↦ absurd (no_percent (subst (λ (x : ℕ). is_digit x ≡ true) same h)) | inr other ↦ ne_eqb c 37 other ]

no_mark : (ds rest : List ℕ) → all_digits ds ≡ true → 0 < length ds → mark_at 37 (32 ∷ (ds ++ rest)) ≡ None
unfolding past past_blanks
no_mark [] rest h k = absurd (omega (arith, k))
no_mark (c ∷ ds) rest h k =
    let here = no_space c ds rest (digits_dense (c ∷ ds) h) in
    let percent : (c == 37) ≡ false = digit_no_percent c (first_digit c ds h) in
    ap (behind 37) here ∙ rw percent refl

-- a short immediate
short_low : (n : ℕ) (rest : List ℕ) → stops rest ≡ true → operator_at rest ≡ None → n < 2048 → number_short_at (short_text n ++ rest) ≡ Some (n, rest)
unfolding number_short_at
short_low n rest s q h =
    let low : nat_lt n 2048 ≡ true = le-leb (suc n) 2048 (omega (arith, h)) in
    rw (low, signed_back n rest (omega (arith, h)) s q, wrapped_low 2048 n h) refl

short_high : (n : ℕ) (rest : List ℕ) → stops rest ≡ true → operator_at rest ≡ None → 2048 ≤ n → n < 4096 → number_short_at (short_text n ++ rest) ≡ Some (n, rest)
unfolding number_short_at
short_high n rest s q h k =
    let high : nat_lt n 2048 ≡ false = lt-leb (suc n) 2048 (omega (arith, h)) in
    rw (high, minus_back (2 * 2048 - n) rest (omega (arith, k)) (omega arith) s q, wrapped_high 2048 n h k) refl

number_short_back : (n : ℕ) (rest : List ℕ) → stops rest ≡ true → operator_at rest ≡ None → n < 4096 → number_short_at (short_text n ++ rest) ≡ Some (n, rest)
number_short_back n rest s q k = elim (cases_lt n 2048) [ inl h ↦ short_low n rest s q h | inr h ↦ short_high n rest s q h k ]

short_no_mark : (n : ℕ) (rest : List ℕ) → mark_at 37 (short_text n ++ rest) ≡ None
unfolding past past_blanks
short_no_mark n rest =
    elim (cases_lt n 2048) [
      | inl h ↦
          let low : nat_lt n 2048 ≡ true = le-leb (suc n) 2048 (omega (arith, h)) in
          let facts = numerals n (omega (arith, h)) (omega (arith, h)) in
          rw low (no_mark (decimal n) rest facts.digits facts.some)
      | inr h ↦
          let high : nat_lt n 2048 ≡ false = lt-leb (suc n) 2048 (omega (arith, h)) in
          rw (high, no_slash 45 (decimal (2 * 2048 - n) ++ rest) refl) refl
    ]

pub short_back : (d : Layout) (n : ℕ) (rest : List ℕ) → stops rest ≡ true → operator_at rest ≡ None → n < 4096 → short_at d (short_text n ++ rest) ≡ Some (n, rest)
unfolding short_at
short_back d n rest s q k = rw (short_no_mark n rest) (number_short_back n rest s q k)

-- an offset is read as its sign and twice its steps
offset_low : (d : Layout) (half n : ℕ) (rest : List ℕ) → stops rest ≡ true → operator_at rest ≡ None → half ≤ 524288 → n < half → offset_at d (offset_text half n ++ rest) ≡ Some (sign false (2 * n), rest)
unfolding offset_at offset_from past past_blanks is_name
offset_low d half n rest s q small h =
    let low : nat_lt n half ≡ true = le-leb (suc n) half (omega (arith, h)) in
    rw (low, plus_back (2 * n) rest (omega (arith, h, small)) s q, signed_low (2 * n) (omega (arith, h, small))) refl

offset_high : (d : Layout) (half n : ℕ) (rest : List ℕ) → stops rest ≡ true → operator_at rest ≡ None → half ≤ 524288 → half ≤ n → n < 2 * half → offset_at d (offset_text half n ++ rest) ≡ Some (sign true (2 * (2 * half - n)), rest)
unfolding offset_at offset_from past past_blanks is_name
offset_high d half n rest s q small h k =
    let high : nat_lt n half ≡ false = lt-leb (suc n) half (omega (arith, h)) in
    rw (high, less_back (2 * (2 * half - n)) rest (omega (arith, h, k, small)) s q, signed_high (2 * (2 * half - n)) (omega (arith, k)) (omega (arith, h, k, small))) refl

pub halved_double : (negative : Bool) (n : ℕ) → half_of (sign negative (2 * n)) ≡ Some (sign negative n)
halved_double negative n =
    let even : 2 * n % 2 ≡ 0 = omega arith in
    let half : 2 * n / 2 ≡ n = omega arith in
    rw (even, half) refl

-- a target, which is read by its steps
pub target_back : (d : Layout) (half n : ℕ) (rest : List ℕ) → stops rest ≡ true → operator_at rest ≡ None → half ≤ 524288 → n < 2 * half → target_at half d (offset_text half n ++ rest) ≡ Some (n, rest)
unfolding target_at steps_of
target_back d half n rest s q small k =
    elim (cases_lt n half) [
      | inl h ↦ rw (offset_low d half n rest s q small h, halved_double false n, wrapped_low half n h) refl
      | inr h ↦ rw (offset_high d half n rest s q small h k, halved_double true (2 * half - n), wrapped_high half n h k) refl
    ]

pub upper_no_mark : (n : ℕ) (rest : List ℕ) → n < 2 ^ 20 → mark_at 37 (upper_text n ++ rest) ≡ None
upper_no_mark n rest h =
    let facts = numerals n (omega (arith, h)) (omega (arith, h)) in
    no_mark (decimal n) rest facts.digits facts.some

pub upper_back : (d : Layout) (n : ℕ) (rest : List ℕ) → n < 2 ^ 20 → stops rest ≡ true → operator_at rest ≡ None → upper_at d (upper_text n ++ rest) ≡ Some (n, rest)
unfolding upper_at
upper_back d n rest h s q = rw (upper_no_mark n rest h) (count_back (2 ^ 20) n rest h (omega (arith, h)) s q)

pub amount_back : (n : ℕ) (rest : List ℕ) → n < 32 → stops rest ≡ true → operator_at rest ≡ None → number_below 32 (upper_text n ++ rest) ≡ Some (n, rest)
amount_back n rest h s q = count_back 32 n rest h (omega (arith, h)) s q
