-- The texts of numbers are the numerals with no sign and no zero before other digits.
use Rattle.std.proofs.Common.{◌≡◌, ◌==◌, ◌<◌, ◌^◌, ◌∙◌, ℕ, zero, suc, List, true, false, Result, Ok, Err, refl, sym, ap, subst, arith, inl, inr, length, get_or}
use Rattle.std.specs.Prelude.{◌&&◌, ◌||◌, decimal, nat_lt}
use Rattle.std.specs.Result.{result_ok}
use Rattle.std.specs.Str.Parse.{AllDigits, IsNumeral, ParsesUnsigned, digits_value, without_leading_plus}
use Rattle.std.proofs.lemmas.Bool.{cases_Bool, eqb-true, ltb-false}
use Rattle.std.proofs.lemmas.Fmt.{decimal_digit, decimal-digits_value, first_decimal, parse-decimal}
use Rattle.std.proofs.lemmas.Str.Parse.{IsNumeralModel}
use Rattle.svc_report.specs.Fields.{Reads, is_padded}

above_zero : (d n : ℕ) → 48 < d → (d == 43) || ((d == 48) && nat_lt 1 n) ≡ false
above_zero d n high = elim (cases_Bool (d == 43)) [
  | inl sign ↦ absurd (omega (arith, high, eqb-true d 43 sign))
  | inr sign ↦ elim (cases_Bool (d == 48)) [
    | inl nought ↦ absurd (omega (arith, high, eqb-true d 48 nought))
    | inr nought ↦ rw (sign, nought) refl
  ]
]

pub text_is_not_padded : (n : ℕ) → n < 2 ^ 32 → is_padded (decimal n) ≡ false
text_is_not_padded zero small = rw (decimal_digit 0 (omega arith)) refl
text_is_not_padded (suc n) small = above_zero (get_or (decimal (suc n)) 0 0) (length (decimal (suc n))) (first_decimal (suc n) (omega arith) (omega (arith, small)))

-- what is not padded has no sign that the parser skips, and begins with a zero only where it is one
no_plus : (text : List ℕ) → is_padded text ≡ false → without_leading_plus text ≡ text
no_plus text whole = elim (cases_Bool (get_or text 0 0 == 43)) [
  | inl sign ↦ let never : is_padded text ≡ true = rw sign refl in cc
  | inr sign ↦ rw sign refl
]

one_zero : (text : List ℕ) → is_padded text ≡ false → 0 < length text → get_or text 0 0 ≡ 48 → length text ≡ 1
one_zero text whole some nought = elim (cases_Bool (nat_lt 1 (length text))) [
  | inl more ↦ let never : is_padded text ≡ true = rw (nought, more) refl in cc
  | inr more ↦ omega (arith, some, ltb-false 1 (length text) more)
]

digits : IsNumeralModel (AllDigits 10) (digits_value 10)
digits = record { to = λ ds all. all; from = λ ds all. all; same = λ ds all. refl }

-- what the parser reads of a text that is not padded is the number whose text it is
reads_value : (text : List ℕ) (n : ℕ) → is_padded text ≡ false → IsNumeral 10 (without_leading_plus text) → digits_value 10 (without_leading_plus text) < 2 ^ 32
    → n ≡ digits_value 10 (without_leading_plus text) → (n < 2 ^ 32) × (text ≡ decimal n)
reads_value text n whole all small value =
    let same = no_plus text whole in
    let numeral : IsNumeral 10 text = subst (IsNumeral 10) same all in
    let is : n ≡ digits_value 10 text = value ∙ ap (digits_value 10) same in
    let low : n < 2 ^ 32 = omega (arith, small, value) in
    (low, sym (ap decimal is ∙ decimal-digits_value digits text numeral.1 numeral.0 (one_zero text whole numeral.0) (omega (arith, low, is))))

pub reads_number : {E : Type 0} (text : List ℕ) (r : Result ℕ E) → is_padded text ≡ false → ParsesUnsigned 32 10 text r → Reads (λ (n : ℕ). n < 2 ^ 32) decimal text (result_ok r)
reads_number text (Ok n) whole read = reads_value text n whole read.0.0 read.0.1 read.1
reads_number text (Err e) whole read = λ n small same. let never = parse-decimal 32 n text (Err e) small (omega (arith, small)) same read in cc

-- a padded text is no number's
pub padded_is_none : (text : List ℕ) (n : ℕ) → is_padded text ≡ true → n < 2 ^ 32 → text ≡ decimal n → ⊥
padded_is_none text n padded small same = let never : is_padded text ≡ false = ap is_padded same ∙ text_is_not_padded n small in cc
