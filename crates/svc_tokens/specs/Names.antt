-- Names as the rows of tables have them, and the names of registers.
use Rattle.std.specs.Prelude.{ℕ, ◌==◌, nat_lt, List, [], ◌∷◌, ◌++◌, length, drop, Option, Some, None, if◌then◌else◌}
use Rattle.std.specs.Prelude.{codes, option_map}
use Rattle.std.specs.Str.{bytes_eq}
use Rattle.svc_rv32i.specs.declared.instr.Register.{Register}
use Rattle.svc_rv32i.specs.Meaning.{register}
use Rattle.svc_layout.specs.Options.{◌>>=◌}
use Rattle.svc_tokens.specs.declared.names.Named.{Named}
use Rattle.svc_tokens.specs.declared.names.TheConstants.{REGISTERS}
use Rattle.svc_tokens.specs.Characters.{value_of}

-- a name and the spaces behind it, where it has at most 16 letters
abbrev pub spaced_out : List ℕ → List ℕ
spaced_out name = name ++ drop (length name) (codes "                ")

unfoldable pub letters_of : List ℕ → Option (List ℕ)
letters_of name = if nat_lt 16 (length name) then None else Some (spaced_out name)

-- the number beside a name
abbrev pub named_in : List Named → List ℕ → Option ℕ
named_in [] name = None
named_in (r ∷ more) name = if bytes_eq name r.0 then Some r.1 else named_in more name

unfoldable pub number_named : List Named → List ℕ → Option ℕ
number_named rows name = letters_of name >>= (λ letters. named_in rows letters)

-- a number that is a register's
abbrev pub in_file : Option ℕ → Option ℕ
in_file None = None
in_file (Some n) = if nat_lt n 32 then Some n else None

-- x0 to x31
unfoldable pub x_number : List ℕ → Option ℕ
x_number [] = None
x_number (c ∷ digits) = if c == 120 then in_file (value_of 10 digits) else None

abbrev pub or_else : Option ℕ → Option ℕ → Option ℕ
or_else None other = other
or_else (Some n) other = Some n

-- a register by either of its names, of which one is the calling convention's
unfoldable pub register_named : List ℕ → Option Register
register_named name = option_map register (or_else (x_number name) (number_named REGISTERS name))
