-- A name or a number is read back from its text.
use Rattle.std.proofs.Common.{◌≡◌, inl, inr, sym, ℕ, zero, suc, ◌+◌, ◌*◌, ◌/◌, ◌%◌, ◌^◌, ◌<◌, Bool, true, false, not, ◌&&◌, ◌||◌, ◌==◌, nat_lt, List, [], ◌∷◌, ◌++◌, length, Some, None, refl, ap, ◌∙◌, arith, decimal, take_while, slice_index}
use Rattle.std.proofs.lemmas.List.Sums.{take_while-cons}
use Rattle.std.proofs.lemmas.Bool.{and_parts, and_from, not-true, le-leb, ne_eqb, agree_below_at, cases_Bool}
use Rattle.std.proofs.lemmas.Fmt.{decimal_by_steps}
use Rattle.std.proofs.lemmas.List.{length-append}
use Rattle.svc_layout.specs.Options.{◌>>=◌}
use Rattle.svc_tokens.specs.declared.characters.TheConstants.{TEXT_END}
use Rattle.svc_tokens.specs.Characters.{is_space, opens, is_name, past_blanks, past_spaces, begins_over, is_over, past, name_at, past_name, behind, digit, push_digit, value_on, behind_zero, number_of}
use Rattle.svc_expressions.specs.Operators.{operator_at}
use Rattle.svc_asm_lines.specs.Statements.{behind_end, end_at}

-- a space, or the slash that opens a comment
abbrev pub is_blank : ℕ → Bool
is_blank c = is_space c || c == 47

-- a character of a name, which is no space and opens no comment
abbrev pub dense : ℕ → Bool
dense c = is_name c && not (is_blank c)

abbrev pub all_dense : List ℕ → Bool
all_dense [] = true
all_dense (c ∷ cs) = dense c && all_dense cs

-- no name goes on here, and no colon makes it a label
abbrev pub stops : List ℕ → Bool
stops [] = true
stops (c ∷ cs) = not (is_name c) && not (c == 58)

-- neither of two tests passes
or_false : (a b : Bool) → (a || b) ≡ false → (a ≡ false) × (b ≡ false)
or_false true b h = absurd (cc)
or_false false b h = (refl, h)

name_front : (w rest : List ℕ) → all_dense w ≡ true → stops rest ≡ true → take_while is_name (w ++ rest) ≡ w
name_front [] [] h k = refl
name_front [] (c ∷ rest) h k =
    let n : is_name c ≡ false = not-true (is_name c) (and_parts (not (is_name c)) (not (c == 58)) k).0 in
    rw (take_while-cons is_name c rest, n) refl
name_front (c ∷ w) rest h k =
    let n : is_name c ≡ true = (and_parts (is_name c) (not (is_blank c)) (and_parts (dense c) (all_dense w) h).0).0 in
    rw (take_while-cons is_name c (w ++ rest), n) (ap (λ xs. c ∷ xs) (name_front w rest (and_parts (dense c) (all_dense w) h).1 k))

name_behind : (w rest : List ℕ) → all_dense w ≡ true → stops rest ≡ true → past is_name (w ++ rest) ≡ rest
unfolding past
name_behind [] [] h k = refl
name_behind [] (c ∷ rest) h k = let n : is_name c ≡ false = not-true (is_name c) (and_parts (not (is_name c)) (not (c == 58)) k).0 in rw n refl
name_behind (c ∷ w) rest h k =
    let n : is_name c ≡ true = (and_parts (is_name c) (not (is_blank c)) (and_parts (dense c) (all_dense w) h).0).0 in
    rw n (name_behind w rest (and_parts (dense c) (all_dense w) h).1 k)

-- where no slash stands, no comment opens
pub no_slash : (c : ℕ) (rest : List ℕ) → (c == 47) ≡ false → opens c rest ≡ false
no_slash c [] h = refl
no_slash c (d ∷ rest) h = rw h refl

pub no_space : (c : ℕ) (w rest : List ℕ) → all_dense (c ∷ w) ≡ true → past_spaces ((c ∷ w) ++ rest) ≡ (c ∷ w) ++ rest
unfolding past_blanks
no_space c w rest h =
    let blank : is_blank c ≡ false = not-true (is_blank c) (and_parts (is_name c) (not (is_blank c)) (and_parts (dense c) (all_dense w) h).0).1 in
    let parts = or_false (is_space c) (c == 47) blank in
    rw (parts.0, no_slash c (w ++ rest) parts.1) refl

pub at_name : (c : ℕ) (w rest : List ℕ) → all_dense (c ∷ w) ≡ true → stops rest ≡ true → name_at ((c ∷ w) ++ rest) ≡ c ∷ w
at_name c w rest h k = ap (take_while is_name) (no_space c w rest h) ∙ name_front (c ∷ w) rest h k

pub at_rest : (c : ℕ) (w rest : List ℕ) → all_dense (c ∷ w) ≡ true → stops rest ≡ true → past_name ((c ∷ w) ++ rest) ≡ rest
at_rest c w rest h k = ap (past is_name) (no_space c w rest h) ∙ name_behind (c ∷ w) rest h k

-- the line ends here, maybe behind a comment, and this follows it
pub record Ends (rest tail : List ℕ) : Type 0 where
  pub stop : stops rest ≡ true
  pub no_name : name_at rest ≡ []
  pub no_sign : operator_at rest ≡ None
  pub over : end_at rest ≡ Some tail

over_behind : (text tail : List ℕ) → behind_end text ≡ Some tail → begins_over text ≡ true
over_behind [] tail h = refl
over_behind (c ∷ rest) tail h =
    elim (cases_Bool (c == 10)) [
      | inl feed ↦ rw feed refl
      | inr other ↦
          elim (cases_Bool (c == 35)) [
            | inl hash ↦ rw (other, hash) refl
            | inr none ↦
                elim (cases_Bool (c == 59)) [
                  | inl more ↦ rw (other, none, more) refl
                  | inr less ↦
                      elim (cases_Bool (c == TEXT_END)) [
                        | inl next ↦ rw (other, none, less, next) refl
                        | inr last ↦ absurd (let gone : None ≡ Some tail = sym (rw (other, none, less, last) refl) ∙ h in cc)
                      ]
                ]
          ]
    ]

pub ends_over : (rest tail : List ℕ) → Ends rest tail → is_over rest ≡ true
unfolding end_at
ends_over rest tail e = over_behind (past_spaces rest) tail e.over

pub no_colon : (rest : List ℕ) → stops rest ≡ true → behind 58 rest ≡ None
no_colon [] k = refl
no_colon (c ∷ rest) k = let n : (c == 58) ≡ false = not-true (c == 58) (and_parts (not (is_name c)) (not (c == 58)) k).1 in rw n refl

-- a space in front changes nothing
pub spaced : (text : List ℕ) → past_spaces (32 ∷ text) ≡ past_spaces text
unfolding past_blanks
spaced text = refl

-- digits are dense characters, have their values, and are no marks
abbrev pub is_digit : ℕ → Bool
is_digit c = dense c && not (c == 45)

pub digit_dense : (c : ℕ) → is_digit c ≡ true → dense c ≡ true
digit_dense c h = (and_parts (dense c) (not (c == 45)) h).0

pub digit_no_minus : (c : ℕ) → is_digit c ≡ true → (c == 45) ≡ false
digit_no_minus c h = not-true (c == 45) (and_parts (dense c) (not (c == 45)) h).1

digit_tests : (d : ℕ) → d < 10 → is_digit (48 + d) ≡ true
unfolding is_name
digit_tests d h = agree_below_at (λ d. is_digit (48 + d)) (λ d. true) 10 d refl h

digit_value : (d : ℕ) → d < 10 → digit (48 + d) ≡ Some d
unfolding digit
digit_value zero h = refl
digit_value (suc zero) h = refl
digit_value (suc (suc zero)) h = refl
digit_value (suc (suc (suc zero))) h = refl
digit_value (suc (suc (suc (suc zero)))) h = refl
digit_value (suc (suc (suc (suc (suc zero))))) h = refl
digit_value (suc (suc (suc (suc (suc (suc zero)))))) h = refl
digit_value (suc (suc (suc (suc (suc (suc (suc zero))))))) h = refl
digit_value (suc (suc (suc (suc (suc (suc (suc (suc zero)))))))) h = refl
digit_value (suc (suc (suc (suc (suc (suc (suc (suc (suc zero))))))))) h = refl
digit_value (suc (suc (suc (suc (suc (suc (suc (suc (suc (suc d)))))))))) h = absurd (omega arith)

abbrev pub all_digits : List ℕ → Bool
all_digits [] = true
all_digits (c ∷ cs) = is_digit c && all_digits cs

pub first_digit : (c : ℕ) (cs : List ℕ) → all_digits (c ∷ cs) ≡ true → is_digit c ≡ true
first_digit c cs h = (and_parts (is_digit c) (all_digits cs) h).0

pub other_digits : (c : ℕ) (cs : List ℕ) → all_digits (c ∷ cs) ≡ true → all_digits cs ≡ true
other_digits c cs h = (and_parts (is_digit c) (all_digits cs) h).1

pub digits_dense : (ds : List ℕ) → all_digits ds ≡ true → all_dense ds ≡ true
digits_dense [] h = refl
digits_dense (c ∷ cs) h = and_from (dense c) (all_dense cs) (digit_dense c (first_digit c cs h)) (digits_dense cs (other_digits c cs h))

digits_push : (ds : List ℕ) (c : ℕ) → all_digits ds ≡ true → is_digit c ≡ true → all_digits (ds ++ (c ∷ [])) ≡ true
digits_push [] c h k = and_from (is_digit c) true k refl
digits_push (d ∷ ds) c h k = and_from (is_digit d) (all_digits (ds ++ (c ∷ []))) (first_digit d ds h) (digits_push ds c (other_digits d ds h) k)

value_push : (radix value : ℕ) (ds : List ℕ) (c : ℕ) → value_on radix value (ds ++ (c ∷ [])) ≡ value_on radix value ds >>= (λ v. push_digit radix v c)
unfolding value_on
value_push radix value [] c = elim (push_digit radix value c) as (λ o. (o >>= (λ v. Some v)) ≡ o) [ None ↦ refl | Some v ↦ refl ]
value_push radix value (d ∷ ds) c =
    elim (push_digit radix value d) as (λ o. (o >>= (λ v. value_on radix v (ds ++ (c ∷ [])))) ≡ ((o >>= (λ v. value_on radix v ds)) >>= (λ v. push_digit radix v c)))
    [ None ↦ refl | Some v ↦ value_push radix v ds c ]

push_one : (v d : ℕ) → d < 10 → v * 10 + d < 2 ^ 32 → push_digit 10 v (48 + d) ≡ Some (v * 10 + d)
unfolding push_digit
push_one v d h k =
    let small : nat_lt d 10 ≡ true = le-leb (suc d) 10 (omega arith) in
    let fits : nat_lt (v * 10 + d) (2 ^ 64) ≡ true = le-leb (suc (v * 10 + d)) (2 ^ 64) (omega arith) in
    rw (digit_value d h, small, fits) refl

-- one digit is its number
one_digit : (n : ℕ) → n < 10 → number_of ((48 + n) ∷ []) ≡ Some n
unfolding number_of behind_zero value_on push_digit digit
one_digit zero h = refl
one_digit (suc zero) h = refl
one_digit (suc (suc zero)) h = refl
one_digit (suc (suc (suc zero))) h = refl
one_digit (suc (suc (suc (suc zero)))) h = refl
one_digit (suc (suc (suc (suc (suc zero))))) h = refl
one_digit (suc (suc (suc (suc (suc (suc zero)))))) h = refl
one_digit (suc (suc (suc (suc (suc (suc (suc zero))))))) h = refl
one_digit (suc (suc (suc (suc (suc (suc (suc (suc zero)))))))) h = refl
one_digit (suc (suc (suc (suc (suc (suc (suc (suc (suc zero))))))))) h = refl
one_digit (suc (suc (suc (suc (suc (suc (suc (suc (suc (suc d)))))))))) h = absurd (omega arith)

-- digits of which the first isn't 0 are decimal
more_digits : (ds : List ℕ) (x : ℕ) → 0 < length ds → (slice_index ds 0 == 48) ≡ false → number_of (ds ++ (x ∷ [])) ≡ value_on 10 0 (ds ++ (x ∷ []))
unfolding number_of
more_digits [] x some leads = absurd (omega (arith, some))
more_digits (d ∷ ds) x some leads = rw leads refl

first_stays : (ds : List ℕ) (x : ℕ) → 0 < length ds → slice_index (ds ++ (x ∷ [])) 0 ≡ slice_index ds 0
first_stays [] x some = absurd (omega (arith, some))
first_stays (d ∷ ds) x some = refl

-- what holds of the text of a number
pub record Numeral (n : ℕ) (ds : List ℕ) : Type 0 where
  pub digits : all_digits ds ≡ true
  pub some : 0 < length ds
  pub leads : 0 < n → (slice_index ds 0 == 48) ≡ false
  pub value : value_on 10 0 ds ≡ Some n
  pub reads : number_of ds ≡ Some n

pub numerals : (n : ℕ) → n < 2 ^ 64 → n < 2 ^ 32 → Numeral n (decimal n)
unfolding value_on
numerals = decimal_by_steps (λ n ds. n < 2 ^ 32 → Numeral n ds)
    (λ n h small. record {
      digits = and_from (is_digit (48 + n)) true (digit_tests n h) refl;
      some = omega arith;
      leads = λ above. ne_eqb (48 + n) 48 (λ same. omega (arith, same, above));
      value = let one : 0 * 10 + n ≡ n = omega arith in rw (push_one 0 n h (omega arith), one) refl;
      reads = one_digit n h;
    })
    (λ n ds h front small.
    let before = front (omega arith) in
    let d : n % 10 < 10 = omega arith in
    let whole : n / 10 * 10 + n % 10 ≡ n = omega arith in
    let leads = before.leads (omega (arith, h)) in
    let value = value_push 10 0 ds (48 + n % 10) ∙ ap (λ o. o >>= (λ v. push_digit 10 v (48 + n % 10))) before.value ∙ push_one (n / 10) (n % 10) d (omega (arith, small, whole)) ∙ ap Some whole in
    record {
      digits = digits_push ds (48 + n % 10) before.digits (digit_tests (n % 10) d);
      some = omega (arith, before.some, length-append ds ((48 + n % 10) ∷ []));
      leads = λ above. ap (λ c. c == 48) (first_stays ds (48 + n % 10) before.some) ∙ leads;
      value = value;
      reads = more_digits ds (48 + n % 10) before.some leads ∙ value;
    })
