-- The characters of a program's text: spaces, names, marks and numbers.
use Rattle.std.specs.Prelude.{ℕ, ◌+◌, ◌*◌, ◌-◌, ◌^◌, Bool, true, false, ◌&&◌, ◌||◌, ◌==◌, nat_le, nat_lt, List, []}
use Rattle.std.specs.Prelude.{◌∷◌, Option, Some, None, if◌then◌else◌, option_map}
use Rattle.std.specs.List.{take_while}
use Rattle.svc_layout.specs.Options.{◌>>=◌}
use Rattle.svc_tokens.specs.declared.characters.Blank.{Blank}
use Rattle.svc_tokens.specs.declared.characters.Blank.TheVariants as blank
use Rattle.svc_tokens.specs.declared.characters.Radix.{Radix}
use Rattle.svc_tokens.specs.declared.characters.Radix.TheVariants as radices
use Rattle.svc_tokens.specs.declared.characters.TheConstants.{TEXT_END}

-- what is read by what is found, or else
abbrev pub found : {A B : Type 0} → Option A → (A → B) → B → B
found None use_it other = other
found (Some x) use_it other = use_it x

abbrev pub is_from_to : ℕ → ℕ → ℕ → Bool
is_from_to low high c = nat_le low c && nat_le c high

-- a space, a tab or a carriage return: what may stand between the parts of a line
abbrev pub is_space : ℕ → Bool
is_space c = c == 32 || c == 9 || c == 13

-- a slash and a star open a comment
abbrev pub opens : ℕ → List ℕ → Bool
opens c [] = false
opens c (next ∷ rest) = c == 47 && next == 42

-- what stands before the next character, where a space or a comment does; no comment goes on in the next text
abbrev pub inside_behind : Blank → ℕ → Blank
inside_behind blank.Opening c = blank.Inside
inside_behind blank.Star c = if c == 47 then blank.Outside else if c == 42 then blank.Star else blank.Inside
inside_behind _ c = if c == 42 then blank.Star else blank.Inside

abbrev pub blank_behind : Blank → ℕ → List ℕ → Option Blank
blank_behind blank.Outside c rest =
    if is_space c then Some blank.Outside else if opens c rest then Some blank.Opening else None
blank_behind b c rest = if c == TEXT_END then None else Some (inside_behind b c)

-- what is left behind spaces and comments; a comment that no star and slash end goes up to the end of the text
unfoldable pub past_blanks : Blank → List ℕ → List ℕ
past_blanks b [] = []
past_blanks b (c ∷ rest) = found (blank_behind b c rest) (λ next. past_blanks next rest) (c ∷ rest)

abbrev pub past_spaces : List ℕ → List ℕ
past_spaces text = past_blanks blank.Outside text

-- the line ends here, maybe behind a comment, or another one follows a semicolon
abbrev pub begins_over : List ℕ → Bool
begins_over [] = true
begins_over (c ∷ rest) = c == 10 || c == 35 || c == 59 || c == TEXT_END

abbrev pub is_over : List ℕ → Bool
is_over text = begins_over (past_spaces text)

-- a letter, a digit, a dot, an underscore or a dollar sign: what names and numbers are made of
unfoldable pub is_name : ℕ → Bool
is_name c = is_from_to 97 122 c || is_from_to 65 90 c || is_from_to 48 57 c || c == 46 || c == 95 || c == 36

-- what is left from the first character on that doesn't pass
unfoldable pub past : (ℕ → Bool) → List ℕ → List ℕ
past p [] = []
past p (c ∷ rest) = if p c then past p rest else c ∷ rest

-- the next name and what follows it
abbrev pub name_at : List ℕ → List ℕ
name_at text = take_while is_name (past_spaces text)

abbrev pub past_name : List ℕ → List ℕ
past_name text = past is_name (past_spaces text)

-- what follows a mark, where it stands next
abbrev pub behind : ℕ → List ℕ → Option (List ℕ)
behind mark [] = None
behind mark (c ∷ rest) = if c == mark then Some rest else None

abbrev pub mark_at : ℕ → List ℕ → Option (List ℕ)
mark_at mark text = behind mark (past_spaces text)

-- the value of a digit of any radix up to 16
unfoldable pub digit : ℕ → Option ℕ
digit c =
    if is_from_to 48 57 c then Some (c - 48) else
    if is_from_to 97 102 c then Some (c - 87) else
    if is_from_to 65 70 c then Some (c - 55) else
    None

-- what digits count in
abbrev pub base_of : Radix → ℕ
base_of radices.Binary = 2
base_of radices.Octal = 8
base_of radices.Decimal = 10
base_of radices.Hexadecimal = 16

-- the number so far and one digit more, where it still has 64 bits
abbrev pub push_value : ℕ → ℕ → ℕ → Option ℕ
push_value radix value d =
    if nat_lt d radix && nat_lt (value * radix + d) (2 ^ 64) then Some (value * radix + d) else None

unfoldable pub push_digit : ℕ → ℕ → ℕ → Option ℕ
push_digit radix value c = do
  d ← digit c
  push_value radix value d

-- the number whose digits go on so
unfoldable pub value_on : ℕ → ℕ → List ℕ → Option ℕ
value_on radix value [] = Some value
value_on radix value (c ∷ rest) = do
  next ← push_digit radix value c
  value_on radix next rest

abbrev pub long_of : ℕ → List ℕ → Option ℕ
long_of radix [] = None
long_of radix (c ∷ rest) = value_on radix 0 (c ∷ rest)

-- the number of these digits, where it has 32 bits
unfoldable pub value_of : ℕ → List ℕ → Option ℕ
value_of radix digits = do
  n ← long_of radix digits
  if nat_lt n (2 ^ 32) then Some n else None

-- what 0 and this are as a number: hexadecimal behind 0x, binary behind 0b, and else octal
unfoldable pub behind_zero : List ℕ → Option ℕ
behind_zero [] = Some 0
behind_zero (c ∷ digits) =
    if c == 120 || c == 88 then long_of 16 digits else
    if c == 98 || c == 66 then long_of 2 digits else
    long_of 8 (c ∷ digits)

-- a number of 64 bits: decimal, where it doesn't begin with 0
unfoldable pub number_of : List ℕ → Option ℕ
number_of [] = None
number_of (c ∷ digits) = if c == 48 then behind_zero digits else long_of 10 (c ∷ digits)

-- what a letter behind a backslash stands for
unfoldable pub escape : ℕ → Option ℕ
escape c =
    if c == 110 then Some 10 else
    if c == 116 then Some 9 else
    if c == 34 then Some 34 else
    if c == 92 then Some 92 else
    if c == 98 then Some 8 else
    if c == 102 then Some 12 else
    if c == 114 then Some 13 else
    None

-- a character and its closing quote
unfoldable pub closed_at : ℕ → List ℕ → Option (ℕ × List ℕ)
closed_at c text = option_map (λ (rest : List ℕ). (c, rest)) (behind 39 text)

-- what follows a backslash between quotes
abbrev pub quoted_escape : ℕ → Option ℕ
quoted_escape c = if c == 39 then Some 39 else escape c

unfoldable pub escape_in_quotes : List ℕ → Option (ℕ × List ℕ)
escape_in_quotes [] = None
escape_in_quotes (c ∷ rest) = do
  n ← quoted_escape c
  closed_at n rest

-- what follows an opening quote
unfoldable pub in_quotes : List ℕ → Option (ℕ × List ℕ)
in_quotes [] = None
in_quotes (c ∷ rest) = if c == 92 then escape_in_quotes rest else if c == 10 then None else closed_at c rest

-- a character between single quotes, as the number that it is
unfoldable pub character_at : List ℕ → Option (ℕ × List ℕ)
character_at text = do
  inside ← mark_at 39 text
  in_quotes inside
