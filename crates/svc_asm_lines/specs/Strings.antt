-- Strings, which are read character by character.
use Rattle.std.specs.Prelude.{ℕ, ◌+◌, ◌*◌, ◌-◌, ◌%◌, ◌==◌, List, [], ◌∷◌, Some, None, if◌then◌else◌, option_map}
use Rattle.svc_layout.specs.declared.section.Width.TheVariants as wide
use Rattle.svc_layout.specs.declared.statement.Ending.{Ending}
use Rattle.svc_layout.specs.declared.statement.Ending.TheVariants as ending
use Rattle.svc_layout.specs.declared.statement.Next.{Next}
use Rattle.svc_layout.specs.declared.statement.Next.TheVariants as go
use Rattle.svc_layout.specs.declared.statement.Statement.{Statement}
use Rattle.svc_layout.specs.declared.statement.Statement.TheVariants as say
use Rattle.svc_layout.specs.Options.{◌>>=◌}
use Rattle.svc_tokens.specs.Characters.{is_from_to, found, digit, escape}
use Rattle.svc_tokens.specs.Tokens.{Read}
use Rattle.svc_asm_lines.specs.Lists.{going_at}
use Rattle.svc_asm_lines.specs.Statements.{some_left}

-- what the end of a string says
abbrev pub string_end : Ending → Next → Statement
string_end ending.Bare n = say.Open n
string_end ending.Zero n = say.Value wide.Byte 0 n

-- a character, behind which the string goes on
unfoldable pub put_at : Ending → ℕ → List ℕ → Read Statement
put_at e c text = do
  rest ← some_left text
  Some (say.Value wide.Byte c (go.Character e), rest)

abbrev pub octal_digit : List ℕ → Read ℕ
octal_digit [] = None
octal_digit (c ∷ rest) = if is_from_to 48 55 c then Some (c - 48, rest) else None

-- a number and one octal digit more, where one follows
unfoldable pub octal_on : ℕ → List ℕ → ℕ × List ℕ
octal_on n text = found (octal_digit text) (λ d. (8 * n + d.0, d.1)) (n, text)

-- a character by one to three octal digits
unfoldable pub octal_at : Ending → List ℕ → Read Statement
octal_at e text = do
  d ← octal_digit text
  put_at e ((octal_on (octal_on d.0 d.1).0 (octal_on d.0 d.1).1).0 % 256)
      (octal_on (octal_on d.0 d.1).0 (octal_on d.0 d.1).1).1

-- a byte and the hexadecimal digits that follow, of which the last two count
unfoldable pub hex_on : ℕ → List ℕ → ℕ × List ℕ
hex_on n [] = (n, [])
hex_on n (c ∷ rest) = found (digit c) (λ d. hex_on ((16 * n + d) % 256) rest) (n, c ∷ rest)

-- a character by one or more hexadecimal digits
unfoldable pub hex_at : Ending → List ℕ → Read Statement
hex_at e [] = None
hex_at e (c ∷ rest) = do
  d ← digit c
  put_at e (hex_on d rest).0 (hex_on d rest).1

unfoldable pub escape_at : Ending → List ℕ → Read Statement
escape_at e [] = None
escape_at e (c ∷ rest) =
    if c == 120 then hex_at e rest else found (escape c) (λ b. put_at e b rest) (octal_at e (c ∷ rest))

-- a character of a string, or the quote behind its last one; a string ends on its line
unfoldable pub character_at : Ending → List ℕ → Read Statement
character_at e [] = None
character_at e (c ∷ rest) =
    if c == 34 then option_map (λ n. (string_end e n.0, n.1)) (going_at (go.Character e) rest) else
    if c == 92 then escape_at e rest else
    if c == 10 then None else
    put_at e c rest
