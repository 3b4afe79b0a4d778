-- Lists of numbers, which are read one by one.
use Rattle.std.specs.Prelude.{ℕ, ◌*◌, ◌-◌, ◌/◌, ◌%◌, ◌^◌, Bool, true, not, ◌||◌, nat_le, nat_lt}
use Rattle.std.specs.Prelude.{List, Some, None, if◌then◌else◌, option_map}
use Rattle.svc_layout.specs.declared.section.Width.{Width}
use Rattle.svc_layout.specs.declared.section.Width.TheVariants as wide
use Rattle.svc_layout.specs.declared.statement.Next.{Next}
use Rattle.svc_layout.specs.declared.statement.Next.TheVariants as go
use Rattle.svc_layout.specs.declared.statement.Statement.{Statement}
use Rattle.svc_layout.specs.declared.statement.Statement.TheVariants as say
use Rattle.svc_layout.specs.Options.{◌>>=◌}
use Rattle.svc_layout.specs.Layouts.{Layout}
use Rattle.svc_tokens.specs.Characters.{found, mark_at}
use Rattle.svc_tokens.specs.Tokens.{Read}
use Rattle.svc_expressions.specs.Expressions.{expression_at}
use Rattle.svc_asm_lines.specs.Statements.{begun_at, end_at}

-- how far below 0 a number of so many bytes may be
abbrev pub half : Width → ℕ
half wide.Byte = 128
half wide.Half = 32768
half wide.Word = 2147483648

-- whether 64 bits are a number of so many bytes, of which half may be below 0; a word takes the low ones of any
abbrev pub fits : Width → ℕ → Bool
fits wide.Word n = true
fits w n = nat_lt n (2 * half w) || nat_le (2 ^ 64 - half w) n

-- a number of a list, without names or with them; in the first pass, which knows no label's address, these fit
abbrev pub fitting : Bool → ℕ × List ℕ → Read ℕ
fitting holds n = if holds then Some n else None

unfoldable pub datum_at : Layout → Width → List ℕ → Read ℕ
datum_at d w text =
    found (expression_at None text) (λ n. fitting (fits w n.0) n)
    (expression_at (Some d) text >>= (λ n. fitting (not d.known || fits w n.0) n))

-- behind a part of a list: a comma and what begins the next one, or the end of the line, behind which a line is read
unfoldable pub going_at : Next → List ℕ → Read Next
going_at n text =
    found (mark_at 44 text) (λ more. option_map (λ rest. (n, rest)) (begun_at n more))
    (option_map (λ rest. (go.Line, rest)) (end_at text))

unfoldable pub item_at : Layout → Width → List ℕ → Read Statement
item_at d w text = do
  n ← datum_at d w text
  then_ ← going_at (go.Value w) n.1
  Some (say.Value w (n.0 % 2 ^ 32) then_.0, then_.1)

-- a number of eight bytes
unfoldable pub long_at : Layout → List ℕ → Read Statement
long_at d text = do
  n ← expression_at (Some d) text
  then_ ← going_at go.Long n.1
  Some (say.Long (n.0 % 2 ^ 32) (n.0 / 2 ^ 32) then_.0, then_.1)
