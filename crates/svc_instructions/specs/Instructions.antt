-- What the rows of the table say, read from a text.
use Rattle.std.specs.Prelude.{ℕ, ◌+◌, ◌*◌, List, [], ◌∷◌, Some, ◌/◌, ◌%◌, ◌^◌, ◌==◌, Bool, ◌&&◌, ◌||◌, Option, None}
use Rattle.std.specs.Prelude.{if◌then◌else◌, option_map}
use Rattle.svc_layout.specs.Options.{◌>>=◌}
use Rattle.svc_tokens.specs.Characters.{name_at, past_name, mark_at, found, is_over}
use Rattle.svc_tokens.specs.Names.{number_named}
use Rattle.svc_tokens.specs.Tokens.{Read, register_at, base_at}
use Rattle.svc_expressions.specs.Numbers.{number_below}
use Rattle.svc_instructions.specs.declared.reading.TheConstants.{ORDERS}
use Rattle.std.specs.List.{find}
use Rattle.std.specs.Str.{bytes_eq}
use Rattle.svc_layout.specs.declared.statement.Statement.{Statement}
use Rattle.svc_layout.specs.declared.statement.Statement.TheVariants as say
use Rattle.svc_layout.specs.Layouts.{Layout}
use Rattle.svc_instructions.specs.Immediates.{short_at, upper_at}
use Rattle.svc_instructions.specs.Offsets.{branch_at, jump_at}
use Rattle.svc_instructions.specs.declared.table.Part.{Part}
use Rattle.svc_instructions.specs.declared.table.Part.TheVariants as part
use Rattle.svc_instructions.specs.declared.table.Row.{Row}
use Rattle.svc_instructions.specs.declared.table.TheConstants.{ROWS, ALIASES}

-- a set of accesses
unfoldable pub order_at : List ℕ → Read ℕ
order_at text = do
  n ← number_named ORDERS (name_at text)
  Some (n, past_name text)

-- what comes before it, and what behind it
unfoldable pub orders_at : List ℕ → Read ℕ
orders_at text = do
  before ← order_at text
  rest ← mark_at 44 before.1
  behind ← order_at rest
  Some (16 * before.0 + behind.0, behind.1)

-- where nothing is said, it orders all
abbrev pub fence_before : List ℕ → List ℕ → Read ℕ
fence_before [] text = Some (255, text)
fence_before (c ∷ name) text = orders_at text

unfoldable pub fence_at : List ℕ → Read ℕ
fence_at text = fence_before (name_at text) text

-- a number's bits at the places that an operand has in a word (RV32I, section 2.3 Immediate Encoding Variants)
unfoldable pub part_bits : Part → ℕ → ℕ
part_bits part.Rd n = n % 2 ^ 5 * 2 ^ 7
part_bits part.Rs1 n = n % 2 ^ 5 * 2 ^ 15
part_bits part.Base n = n % 2 ^ 5 * 2 ^ 15
part_bits part.Rs2 n = n % 2 ^ 5 * 2 ^ 20
part_bits part.Amount n = n % 2 ^ 5 * 2 ^ 20
part_bits part.Immediate n = n % 2 ^ 12 * 2 ^ 20
part_bits part.Order n = n % 2 ^ 12 * 2 ^ 20
part_bits part.StoreOffset n = n % 2 ^ 5 * 2 ^ 7 + n / 2 ^ 5 % 2 ^ 7 * 2 ^ 25
part_bits part.Branch n =
    n % 2 ^ 4 * 2 ^ 8 + n / 2 ^ 4 % 2 ^ 6 * 2 ^ 25 + n / 2 ^ 10 % 2 * 2 ^ 7 + n / 2 ^ 11 % 2 * 2 ^ 31
part_bits part.Upper n = n % 2 ^ 20 * 2 ^ 12
part_bits part.Jump n =
    n % 2 ^ 10 * 2 ^ 21 + n / 2 ^ 10 % 2 * 2 ^ 20 + n / 2 ^ 11 % 2 ^ 8 * 2 ^ 12 + n / 2 ^ 19 % 2 * 2 ^ 31
part_bits part.Comma n = 0
part_bits part.End n = 0

-- the number whose bits stand there
unfoldable pub part_number : Part → ℕ → ℕ
part_number part.Rd w = w / 2 ^ 7 % 2 ^ 5
part_number part.Rs1 w = w / 2 ^ 15 % 2 ^ 5
part_number part.Base w = w / 2 ^ 15 % 2 ^ 5
part_number part.Rs2 w = w / 2 ^ 20 % 2 ^ 5
part_number part.Amount w = w / 2 ^ 20 % 2 ^ 5
part_number part.Immediate w = w / 2 ^ 20 % 2 ^ 12
part_number part.Order w = w / 2 ^ 20 % 2 ^ 12
part_number part.StoreOffset w = w / 2 ^ 7 % 2 ^ 5 + w / 2 ^ 25 % 2 ^ 7 * 2 ^ 5
part_number part.Branch w =
    w / 2 ^ 8 % 2 ^ 4 + w / 2 ^ 25 % 2 ^ 6 * 2 ^ 4 + w / 2 ^ 7 % 2 * 2 ^ 10 + w / 2 ^ 31 % 2 * 2 ^ 11
part_number part.Upper w = w / 2 ^ 12 % 2 ^ 20
part_number part.Jump w =
    w / 2 ^ 21 % 2 ^ 10 + w / 2 ^ 20 % 2 * 2 ^ 10 + w / 2 ^ 12 % 2 ^ 8 * 2 ^ 11 + w / 2 ^ 31 % 2 * 2 ^ 19
part_number part.Comma w = 0
part_number part.End w = 0

-- how an operand is read
unfoldable pub part_at : Layout → Part → List ℕ → Read ℕ
part_at d part.End text = Some (0, text)
part_at d part.Comma text = option_map (λ rest. (0, rest)) (mark_at 44 text)
part_at d part.Rd text = option_map (λ r. (r.0.number, r.1)) (register_at text)
part_at d part.Rs1 text = option_map (λ r. (r.0.number, r.1)) (register_at text)
part_at d part.Rs2 text = option_map (λ r. (r.0.number, r.1)) (register_at text)
part_at d part.Base text = option_map (λ r. (r.0.number, r.1)) (base_at text)
part_at d part.Immediate text = short_at d text
part_at d part.StoreOffset text = short_at d text
part_at d part.Amount text = number_below 32 text
part_at d part.Upper text = upper_at d text
part_at d part.Order text = fence_at text
part_at d part.Branch text = branch_at d text
part_at d part.Jump text = jump_at d text

-- a word and an operand's number in it
abbrev pub with_part : ℕ → Part → ℕ → ℕ
with_part word p n = (word + part_bits p n) % 2 ^ 32

-- a word and the operands that a text has for it
abbrev pub parts_at : Layout → List Part → List ℕ → ℕ → Read ℕ
parts_at d [] text word = Some (word, text)
parts_at d (p ∷ more) text word = part_at d p text >>= (λ n. parts_at d more n.1 (with_part word p n.0))

-- the parts of a row's operands
abbrev pub parts_of : Row → List Part
parts_of r = r.2.0 ∷ r.2.1 ∷ r.2.2 ∷ r.2.3 ∷ r.2.4 ∷ []

-- a row's word and operands, behind which the line ends
abbrev pub over : ℕ × List ℕ → Read ℕ
over read = if is_over read.1 then Some read else None

unfoldable pub row_at : Layout → Row → List ℕ → Read ℕ
row_at d r text = parts_at d (parts_of r) text r.1 >>= over

-- the first of these rows that has this name and is read
abbrev pub rows_at : Layout → List Row → List ℕ → List ℕ → Read ℕ
rows_at d [] name text = None
rows_at d (r ∷ more) name text =
    if bytes_eq name r.0 then found (row_at d r text) (λ read. Some read) (rows_at d more name text) else
    rows_at d more name text

abbrev pub either_at : Layout → List Row → List Row → List ℕ → List ℕ → Read ℕ
either_at d rows more name text = found (rows_at d rows name text) (λ read. Some read) (rows_at d more name text)

-- the instruction of a name and its operands
unfoldable pub alone_at : Layout → List ℕ → List ℕ → Read Statement
alone_at d letters text = option_map (λ read. (say.Instruction read.0, read.1)) (either_at d ROWS ALIASES letters text)

-- the bits of a word that no operand has, by its opcode (RV32I, section 2.2 Base Instruction Formats): funct3 stands
-- beside it but in formats U and J, funct7 in format R and in shifts, and system calls have no operands
abbrev pub with_funct3 : ℕ → ℕ
with_funct3 w = w % 2 ^ 7 + w / 2 ^ 12 % 2 ^ 3 * 2 ^ 12

abbrev pub with_funct7 : ℕ → ℕ
with_funct7 w = with_funct3 w + w / 2 ^ 25 * 2 ^ 25

unfoldable pub fixed_by : (opcode w : ℕ) → ℕ
fixed_by opcode w =
    if opcode == 55 || opcode == 23 || opcode == 111 then w % 2 ^ 7 else
    if opcode == 51 then with_funct7 w else
    if opcode == 19 && w / 2 ^ 12 % 2 ^ 2 == 1 then with_funct7 w else
    if opcode == 115 then w else
    with_funct3 w

abbrev pub fixed_bits : ℕ → ℕ
fixed_bits w = fixed_by (w % 2 ^ 7) w

-- the row that a word is of: the one whose fixed bits it has
abbrev pub is_of : ℕ → Row → Bool
is_of bits r = bits == r.1

unfoldable pub row_of : ℕ → Option Row
row_of w = find (is_of (fixed_bits w)) ROWS
