-- Registers, marks and numbers, as readers find them where a text begins.
use Rattle.std.specs.Prelude.{◌≡◌, Option, Some, None, Result, Ok, Err, ℕ, List}
use Rattle.svc_rv32i.specs.declared.instr.Register.{Register}
use Rattle.svc_layout.specs.Options.{◌>>=◌}
use Rattle.svc_tokens.specs.Characters.{found, name_at, past_name, mark_at, number_of, character_at}
use Rattle.svc_tokens.specs.Names.{register_named}

-- what was read, as the definition sees it, or an error where the definition reads nothing
abbrev pub Gives : {X Y E : Type 0} → (X → Y) → Result X E → Option Y → Type 0
Gives view (Ok x) read = read ≡ Some (view x)
Gives view (Err e) read = read ≡ None

-- what is read first, and what is left behind it
abbrev pub Read : Type 0 → Type 0
Read A = Option (A × List ℕ)

unfoldable pub register_at : List ℕ → Read Register
register_at text = do
  r ← register_named (name_at text)
  Some (r, past_name text)

-- a register and the comma behind it
unfoldable pub first_register_at : List ℕ → Read Register
first_register_at text = do
  r ← register_at text
  rest ← mark_at 44 r.1
  Some (r.0, rest)

-- a register in parentheses
unfoldable pub base_at : List ℕ → Read Register
base_at text = do
  inside ← mark_at 40 text
  r ← register_at inside
  rest ← mark_at 41 r.1
  Some (r.0, rest)

-- a number, or a character as one
unfoldable pub number_at : List ℕ → Read ℕ
number_at text = found (number_of (name_at text)) (λ n. Some (n, past_name text)) (character_at text)
