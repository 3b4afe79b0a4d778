-- What a line says: directives and instructions, read from their text.
use Rattle.std.specs.Prelude.{ℕ, nat_eq, List, [], ◌∷◌, Option, Some, None, if◌then◌else◌, ◌^◌, ◌==◌, ◌||◌, nat_le}
use Rattle.std.specs.Prelude.{Bool, true, false, not, drop, codes, option_map}
use Rattle.std.specs.List.{starts_with}
use Rattle.std.specs.Str.{bytes_eq}
use Rattle.svc_layout.specs.Options.{◌>>=◌}
use Rattle.svc_tokens.specs.Characters.{name_at, is_from_to, opens, past_spaces, past, found, past_name, behind}
use Rattle.svc_tokens.specs.Characters.{mark_at, value_of}
use Rattle.svc_tokens.specs.declared.characters.TheConstants.{TEXT_END}
use Rattle.svc_tokens.specs.Names.{letters_of}
use Rattle.svc_asm_lines.specs.declared.directives.Says.{Says}
use Rattle.svc_asm_lines.specs.declared.directives.Directive.{Directive}
use Rattle.svc_asm_lines.specs.declared.directives.Beginning.{Beginning}
use Rattle.svc_asm_lines.specs.declared.directives.Kept.{Kept}
use Rattle.svc_asm_lines.specs.declared.directives.Kept.TheVariants as kept
use Rattle.svc_asm_lines.specs.declared.directives.TheConstants.{SECTIONS, DIRECTIVES}
use Rattle.svc_image.specs.declared.version.Version.TheVariants as version
use Rattle.svc_layout.specs.declared.statement.Statement.{Statement}
use Rattle.svc_layout.specs.declared.statement.Statement.TheVariants as say
use Rattle.svc_tokens.specs.Tokens.{Read, first_register_at}
use Rattle.svc_expressions.specs.Numbers.{number_below, signed_at}
use Rattle.svc_asm_lines.specs.declared.directives.Number.{Number}
use Rattle.svc_asm_lines.specs.declared.directives.Number.TheVariants as number
use Rattle.svc_layout.specs.declared.section.Width.TheVariants as wide
use Rattle.svc_layout.specs.declared.statement.Next.{Next}
use Rattle.svc_layout.specs.declared.statement.Next.TheVariants as go
use Rattle.svc_instructions.specs.Couples.{instruction_at}
use Rattle.svc_layout.specs.Layouts.{Layout}
use Rattle.svc_asm_lines.specs.declared.line.Passed.{Passed}
use Rattle.svc_asm_lines.specs.declared.line.Passed.TheVariants as passed
use Rattle.svc_asm_lines.specs.declared.directives.Says.TheVariants as says
use Rattle.svc_expressions.specs.Signed.{bits_of}
use Rattle.svc_expressions.specs.Expressions.{value_at}

-- what a directive says
abbrev pub says_in : List Directive → List ℕ → Option Says
says_in [] name = None
says_in (r ∷ more) name = if bytes_eq name r.0 then Some r.1 else says_in more name

unfoldable pub said_by : List Directive → List ℕ → Option Says
said_by rows name = letters_of name >>= (λ letters. says_in rows letters)

-- what a name's section is a part of, by how the name begins
abbrev pub section_in : List Beginning → List ℕ → Option Kept
section_in [] name = None
section_in (r ∷ more) name = if starts_with nat_eq name (name_at r.0) then Some r.1 else section_in more name

unfoldable pub section_by : List ℕ → Option Kept
section_by name = section_in SECTIONS name

-- 2 ^ 16 is the greatest alignment by a power
abbrev pub said_of : Number → ℕ → Option Statement
said_of number.Power n = if nat_le n 16 then Some (say.Align (2 ^ n)) else None
said_of number.Step n = Some (say.Align n)
said_of number.Version n =
    if n == 1 then Some (say.Version version.One) else if n == 2 then Some (say.Version version.Two) else None
said_of number.Limit n = Some (say.Limit n)
said_of number.Own n = Some (say.Entry (Some n))

unfoldable pub numbered_at : Number → List ℕ → Read Statement
numbered_at number text = do
  n ← number_below (2 ^ 32) text
  s ← said_of number n.0
  Some (s, n.1)

-- behind a comma a number that may have a minus sign, as 32 bits, and without one this number
unfoldable pub number_or : ℕ → List ℕ → Read ℕ
number_or default text =
    found (mark_at 44 text) (λ rest. option_map (λ s. (bits_of s.0, s.1)) (signed_at rest)) (Some (default, text))

-- so many bytes, which are 0 where no other number is said
unfoldable pub zeros_at : List ℕ → Read Statement
zeros_at text = do
  n ← number_below (2 ^ 32) text
  byte ← number_or 0 n.1
  Some (say.Fill n.0 1 byte.0, byte.1)

-- so many copies of a number of up to 8 bytes: of one byte, and 0, where nothing else is said
abbrev pub copies_of : (count size value : ℕ) → List ℕ → Read Statement
copies_of count size value rest = if nat_le size 8 then Some (say.Fill count size value, rest) else None

unfoldable pub fill_at : List ℕ → Read Statement
fill_at text = do
  n ← number_below (2 ^ 32) text
  size ← number_or 1 n.1
  value ← number_or 0 size.1
  copies_of n.0 size.0 value.0 value.1

-- a task begins here, maybe with a limit of its own
abbrev pub entry_before : List ℕ → List ℕ → Read Statement
entry_before [] text = Some (say.Entry None, text)
entry_before (c ∷ name) text = numbered_at number.Own text

-- the rest of a line
abbrev pub is_inside : ℕ → Bool
is_inside c = not (c == 10)

-- what the rest of a line that is passed over has stood before the next character: a line feed ends it, but not in a
-- comment between a slash and a star and a star and a slash, and a semicolon outside of strings and comments
abbrev pub passed_behind : Passed → ℕ → List ℕ → Option Passed
passed_behind passed.Plain c rest =
    if c == 10 || c == 59 then None else
    if c == 34 then Some passed.Quoted else
    if c == 35 then Some passed.Remark else
    if opens c rest then Some passed.Opening else
    Some passed.Plain
passed_behind passed.Quoted c rest =
    if c == 10 then None else
    if c == 34 then Some passed.Plain else
    if c == 92 then Some passed.Escaped else
    Some passed.Quoted
passed_behind passed.Escaped c rest = if c == 10 then None else Some passed.Quoted
passed_behind passed.Remark c rest = if c == 10 then None else Some passed.Remark
passed_behind passed.Opening c rest = Some passed.Inside
passed_behind passed.Inside c rest = if c == 42 then Some passed.Star else Some passed.Inside
passed_behind passed.Star c rest =
    if c == 47 then Some passed.Plain else if c == 42 then Some passed.Star else Some passed.Inside

-- and none of it is the next text's
abbrev pub rest_behind : Passed → ℕ → List ℕ → Option Passed
rest_behind p c rest = if c == TEXT_END then None else passed_behind p c rest

unfoldable pub past_rest : Passed → List ℕ → List ℕ
past_rest p [] = []
past_rest p (c ∷ rest) = found (rest_behind p c rest) (λ next. past_rest next rest) (c ∷ rest)

-- what is left, of which there is some: no text ends within a list
abbrev pub some_left : List ℕ → Option (List ℕ)
some_left [] = None
some_left (c ∷ rest) = Some (c ∷ rest)

-- where a part begins that is read next: a string begins behind a quote
abbrev pub behind_name : Next → List ℕ → Option (List ℕ)
behind_name (go.Character e) text = mark_at 34 text
behind_name _ text = Some text

unfoldable pub begun_at : Next → List ℕ → Option (List ℕ)
begun_at n text = behind_name n text >>= some_left

-- what follows a quote, where one stands next
abbrev pub past_quote : List ℕ → List ℕ
past_quote text = found (mark_at 34 text) (λ rest. rest) text

-- a section that is kept, and one that is passed over
abbrev pub kept_as : Kept → Statement
kept_as (kept.In s) = say.Section s
kept_as kept.Nowhere = say.Open go.Passed

-- a section by its name, which quotes may surround; flags and the like follow it
abbrev pub section_at : List ℕ → Read Statement
section_at text = option_map (λ s. (kept_as s, past_rest passed.Plain text)) (section_by (name_at (past_quote text)))

-- what a directive says, by what it reads
unfoldable pub said_at : Layout → Says → List ℕ → Read Statement
said_at d (says.Section s) text = Some (say.Section s, text)
said_at d says.NamedSection text = section_at text
said_at d says.Word text = option_map (λ n. (say.Value wide.Word n.0 go.Line, n.1)) (value_at d text)
said_at d (says.Number number) text = numbered_at number text
said_at d says.Zeros text = zeros_at text
said_at d says.Fill text = fill_at text
said_at d says.ReadOnly text = Some (say.ReadOnly, text)
said_at d says.Entry text = entry_before (name_at text) text
said_at d says.Start text = option_map (λ n. (say.Start n.0, n.1)) (value_at d text)
said_at d says.Register text =
    first_register_at text >>= (λ r. option_map (λ n. (say.Register r.0 n.0, n.1)) (value_at d r.1))
said_at d says.Passed text = Some (say.Nothing, past_rest passed.Plain text)
said_at d says.Unread text = None
said_at d (says.Open n) text = option_map (λ rest. (say.Open n, rest)) (begun_at n text)

unfoldable pub directive_at : Layout → List ℕ → List ℕ → Read Statement
directive_at d name text =
    found (said_by DIRECTIVES name) (λ s. said_at d s text) (
    if starts_with nat_eq name (codes ".cfi_") then Some (say.Nothing, past_rest passed.Plain text) else None)

-- what a line without a name says: that the next text begins, or nothing
abbrev pub begins_text : List ℕ → Bool
begins_text [] = false
begins_text (c ∷ rest) = c == TEXT_END

abbrev pub nameless : List ℕ → Statement × List ℕ
nameless text = if begins_text text then (say.NextText, drop 1 text) else (say.Nothing, text)

-- what a name and what follows it say: a directive's name begins with a dot
abbrev pub line_named : Layout → List ℕ → List ℕ → Read Statement
line_named d [] text = Some (nameless text)
line_named d (c ∷ name) text = if c == 46 then directive_at d (c ∷ name) text else instruction_at d (c ∷ name) text

unfoldable pub statement_at : Layout → List ℕ → Read Statement
statement_at d text = line_named d (name_at text) (past_name text)

-- what follows the end of a line, which a comment may stand before, or a semicolon; a text ends with its last line
abbrev pub behind_end : List ℕ → Option (List ℕ)
behind_end [] = Some []
behind_end (c ∷ rest) =
    if c == 10 || c == 59 then Some rest else
    if c == 35 then Some (drop 1 (past is_inside rest)) else
    if c == TEXT_END then Some (c ∷ rest) else
    None

unfoldable pub end_at : List ℕ → Option (List ℕ)
end_at text = behind_end (past_spaces text)

-- what a name and what follows it say, and the end of its line
abbrev pub ended_with : Layout → (name text : List ℕ) → Read Statement
ended_with d name text = do
  s ← line_named d name text
  rest ← end_at s.1
  Some (s.0, rest)

-- a statement and the end of its line
unfoldable pub ended_at : Layout → List ℕ → Read Statement
ended_at d text = do
  s ← statement_at d text
  rest ← end_at s.1
  Some (s.0, rest)

-- what may be a label's name: no digit begins it
abbrev pub is_label : List ℕ → Bool
is_label [] = false
is_label (c ∷ name) = not (is_from_to 48 57 c)

-- what a name, or a local label's number, and a colon say
abbrev pub label_with : List ℕ → List ℕ → Read Statement
label_with name rest =
    if is_label name then Some (say.Label, rest) else option_map (λ n. (say.Local n, rest)) (value_of 10 name)

-- a line, up to the colon where it begins with a label: what it says, and the text behind it
unfoldable pub line_at : Layout → List ℕ → Read Statement
line_at d text = found (behind 58 (past_name text)) (λ rest. label_with (name_at text) rest) (ended_at d text)

-- a directive that is passed over in a section that is: one that says something of the data, or nothing
abbrev pub is_passed : Says → Bool
is_passed says.Word = true
is_passed (says.Number number.Power) = true
is_passed (says.Number number.Step) = true
is_passed says.Zeros = true
is_passed says.Fill = true
is_passed says.Passed = true
is_passed _ = false

abbrev pub is_kept : List ℕ → Bool
is_kept name = found (said_by DIRECTIVES name) (λ s. not (is_passed s)) false

-- a line of a section that is passed over: a label, a directive that is read, or what says nothing
unfoldable pub passed_at : Layout → List ℕ → Read Statement
passed_at d text =
    found (behind 58 (past_name text)) (λ rest. Some (say.Nothing, rest)) (
    if is_kept (name_at text) || begins_text (past_name text) then ended_at d text else
    option_map (λ rest. (say.Nothing, rest)) (end_at (past_rest passed.Plain text)))
