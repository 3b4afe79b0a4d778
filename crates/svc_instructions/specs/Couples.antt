-- What a name and its operands say: one instruction, or two.
use Rattle.std.specs.Prelude.{ℕ, ◌^◌, ◌%◌, Bool, false, ◌||◌, ◌==◌, nat_le, nat_lt, List, [], ◌∷◌, Some, None}
use Rattle.std.specs.Prelude.{is_none, if◌then◌else◌, codes}
use Rattle.std.specs.Str.{bytes_eq}
use Rattle.svc_layout.specs.declared.statement.Statement.{Statement}
use Rattle.svc_layout.specs.declared.statement.Statement.TheVariants as say
use Rattle.svc_layout.specs.Options.{◌>>=◌}
use Rattle.svc_layout.specs.Layouts.{Layout}
use Rattle.svc_tokens.specs.Characters.{name_at, past_name, mark_at, number_of, found, is_over}
use Rattle.svc_tokens.specs.Tokens.{Read, register_at, first_register_at}
use Rattle.svc_expressions.specs.Numbers.{signed_at}
use Rattle.svc_expressions.specs.Expressions.{value_at}
use Rattle.svc_instructions.specs.Immediates.{bits_within, high_part, from_here, relative_at}
use Rattle.svc_instructions.specs.declared.table.Couple.{Couple}
use Rattle.svc_instructions.specs.declared.table.Part.TheVariants as part
use Rattle.svc_instructions.specs.Instructions.{with_part, alone_at}
use Rattle.svc_instructions.specs.Branches.{far_at}
use Rattle.std.specs.List.{find}
use Rattle.svc_tokens.specs.Names.{letters_of, number_named}
use Rattle.svc_instructions.specs.declared.table.Through.{Through}
use Rattle.svc_instructions.specs.declared.table.Through.TheVariants as through
use Rattle.svc_instructions.specs.declared.table.TheConstants.{COUPLES, LOADS, STORES}

abbrev pub has_name : List ℕ → Couple → Bool
has_name name c = bytes_eq name c.0

-- a word with a register and the high part of a number, and one that also reads the register, with the low part
abbrev pub with_high : ℕ → (rd number : ℕ) → ℕ
with_high word rd number = with_part (with_part word part.Rd rd) part.Upper (high_part number)

abbrev pub with_low : ℕ → (rd number : ℕ) → ℕ
with_low word rd number = with_part (with_part (with_part word part.Rd rd) part.Rs1 rd) part.Immediate number

abbrev pub apart : (first second rd number : ℕ) → Statement
apart first second rd number = say.Pair (with_high first rd number) (with_low second rd number)

-- what is left behind @plt, which changes nothing where all is in one image
abbrev pub past_plt : List ℕ → List ℕ
past_plt text =
    found (mark_at 64 text) (λ rest. if bytes_eq (name_at rest) (codes "plt") then past_name rest else text) text

-- two instructions by how far it is from here to a value
unfoldable pub pair_at : Layout → (first second rd : ℕ) → List ℕ → Read Statement
pair_at d first second rd text = do
  n ← value_at d text
  Some (apart first second rd (from_here d n.0), past_plt n.1)

-- a call that leaves in this register where it returns goes through t1: auipc (0x317) and jalr (0x30067)
abbrev pub linked_at : Layout → ℕ → List ℕ → Read Statement
linked_at d rd text = pair_at d 791 (with_part 196711 part.Rd rd) 0 text

abbrev pub through_at : Layout → Couple → Through → List ℕ → Read Statement
through_at d c through.Own text = pair_at d c.1 c.2 0 text
through_at d c through.First text = first_register_at text >>= (λ r. pair_at d c.1 c.2 r.0.number r.1)
through_at d c through.Link text =
    found (first_register_at text) (λ r. linked_at d r.0.number r.1) (pair_at d c.1 c.2 0 text)

unfoldable pub couple_at : Layout → Couple → List ℕ → Read Statement
couple_at d c text = through_at d c c.3 text

-- a name, which is no number
abbrev pub begins_name : List ℕ → Bool
begins_name [] = false
begins_name (c ∷ name) = is_none (number_of (c ∷ name))

-- a value that begins with a name, of which an access has the address
unfoldable pub label_at : Layout → List ℕ → Read ℕ
label_at d text = if begins_name (name_at text) then value_at d text else None

-- a load by a label, and a store, with auipc (0x17): a load goes through its own register, a store through another one
unfoldable pub load_at : Layout → ℕ → List ℕ → Read Statement
load_at d word text = do
  rd ← first_register_at text
  n ← label_at d rd.1
  Some (apart 23 word rd.0.number (from_here d n.0), n.1)

abbrev pub with_store : ℕ → (rs2 rs1 number : ℕ) → ℕ
with_store word rs2 rs1 number =
    with_part (with_part (with_part word part.Rs2 rs2) part.Rs1 rs1) part.StoreOffset number

unfoldable pub store_at : Layout → ℕ → List ℕ → Read Statement
store_at d word text = do
  rs ← first_register_at text
  n ← label_at d rs.1
  rest ← mark_at 44 n.1
  r ← register_at rest
  Some (
    say.Pair (with_high 23 r.0.number (from_here d n.0))
        (with_store word rs.0.number r.0.number (from_here d n.0)),
    r.1,
  )

-- an access by a label
unfoldable pub access_at : Layout → (name text : List ℕ) → Read Statement
access_at d name text =
    found (number_named LOADS name) (λ word. load_at d word text)
    (number_named STORES name >>= (λ word. store_at d word text))

-- a number of 32 bits into a register, by the fewest instructions of addi (0x13) and lui (0x37)
abbrev pub set_to : (rd number : ℕ) → Statement
set_to rd n =
    if nat_lt n 2048 || nat_le 4294965248 n
    then say.Instruction (with_part (with_part 19 part.Rd rd) part.Immediate n) else
    if n % 4096 == 0 then say.Instruction (with_high 55 rd n) else
    apart 55 19 rd n

unfoldable pub set_at : List ℕ → Read Statement
set_at text = do
  rd ← first_register_at text
  s ← signed_at rd.1
  n ← bits_within (2 ^ 31) s.0
  Some (set_to rd.0.number n, s.1)

-- auipc (0x17) with %pcrel_hi(VALUE): how far it is to the value stays known by the place, for %pcrel_lo
unfoldable pub relative_upper_at : Layout → List ℕ → Read Statement
relative_upper_at d text = do
  rd ← first_register_at text
  part ← mark_at 37 rd.1
  n ← relative_at d part
  Some (say.Relative (with_high 23 rd.0.number n.0) n.0, n.1)

-- an auipc with %pcrel_hi, or another instruction
abbrev pub relative_named : Layout → List ℕ → List ℕ → Read Statement
relative_named d name text = if bytes_eq name (codes "auipc") then relative_upper_at d text else None

unfoldable pub single_at : Layout → (name letters text : List ℕ) → Read Statement
single_at d name letters text = found (relative_named d name text) (λ read. Some read) (alone_at d letters text)

-- where the line ends behind it
abbrev pub alone_on_line : Statement × List ℕ → Read Statement
alone_on_line read = if is_over read.1 then Some read else None

-- two instructions: an access by a label, or a branch
unfoldable pub longer_at : Layout → (name letters text : List ℕ) → Read Statement
longer_at d name letters text =
    found (access_at d name text) (λ read. Some read) (far_at d letters text) >>= alone_on_line

-- one instruction, or two
unfoldable pub other_at : Layout → (name letters text : List ℕ) → Read Statement
other_at d name letters text = found (single_at d name letters text) (λ read. Some read) (longer_at d name letters text)

abbrev pub lettered_at : Layout → (name letters text : List ℕ) → Read Statement
lettered_at d name letters text =
    found (find (has_name letters) COUPLES) (λ c. couple_at d c text) (other_at d name letters text)

-- the instruction, or the two, that a name and its operands stand for
unfoldable pub instruction_at : Layout → (name text : List ℕ) → Read Statement
instruction_at d name text =
    if bytes_eq name (codes "li") then set_at text else letters_of name >>= (λ letters. lettered_at d name letters text)
