-- Branches that don't reach their targets: each is turned into the opposite branch over a jump, which does.
use Rattle.std.specs.Prelude.{ℕ, ◌+◌, ◌-◌, ◌/◌, ◌%◌, ◌^◌, Bool, true, false, ◌||◌, ◌==◌, List, [], ◌∷◌, length}
use Rattle.std.specs.Prelude.{Option, Some, None, if◌then◌else◌, codes}
use Rattle.std.specs.List.{find}
use Rattle.std.specs.Str.{bytes_eq}
use Rattle.svc_layout.specs.declared.statement.Statement.{Statement}
use Rattle.svc_layout.specs.declared.statement.Statement.TheVariants as say
use Rattle.svc_layout.specs.Options.{◌>>=◌}
use Rattle.svc_layout.specs.Layouts.{Layout}
use Rattle.svc_layout.specs.Notes.{is_turned}
use Rattle.svc_tokens.specs.Characters.{name_at, found}
use Rattle.svc_tokens.specs.Tokens.{Read}
use Rattle.svc_instructions.specs.Offsets.{jump_behind_at}
use Rattle.svc_instructions.specs.declared.table.Part.{Part}
use Rattle.svc_instructions.specs.declared.table.Part.TheVariants as part
use Rattle.svc_instructions.specs.declared.table.Row.{Row}
use Rattle.svc_instructions.specs.declared.table.TheConstants.{ROWS, ALIASES}
use Rattle.svc_instructions.specs.Instructions.{with_part, part_at, parts_of}

-- the branch that is taken where this one isn't: the lowest bit of its funct3 is the other one
abbrev pub opposite : ℕ → ℕ
opposite w = if w / 2 ^ 12 % 2 == 0 then w + 2 ^ 12 else w - 2 ^ 12

-- the opposite branch, which goes past the next word, and a jump there: jal (0x6f) with x0
abbrev pub over_jump : (word n : ℕ) → Statement
over_jump word n = say.Pair (with_part (opposite word) part.Branch 4) (with_part 111 part.Jump n)

-- whether it is two instructions already: . tells in both passes how far it is
abbrev pub is_two : Layout → List ℕ → Bool
is_two d text = is_turned d (length text) || bytes_eq (name_at text) (codes ".")

-- a branch's target, behind the registers in its word
unfoldable pub far_target_at : Layout → ℕ → List ℕ → Read Statement
far_target_at d word text = do
  n ← jump_behind_at d text
  Some (if is_two d text then over_jump word n.0 else say.Turned (length text), n.1)

abbrev pub is_branch : Part → Bool
is_branch part.Branch = true
is_branch _ = false

-- the operands of a branch; other instructions have no such target
abbrev pub far_parts_at : Layout → List Part → List ℕ → ℕ → Read Statement
far_parts_at d [] text word = None
far_parts_at d (p ∷ more) text word =
    if is_branch p then far_target_at d word text else
    part_at d p text >>= (λ n. far_parts_at d more n.1 (with_part word p n.0))

abbrev pub is_named : List ℕ → Row → Bool
is_named name r = bytes_eq name r.0

-- the first row of a name
unfoldable pub row_named : List ℕ → Option Row
row_named name = found (find (is_named name) ROWS) (λ r. Some r) (find (is_named name) ALIASES)

-- a branch that is two instructions, or will be
unfoldable pub far_at : Layout → (letters text : List ℕ) → Read Statement
far_at d letters text = do
  r ← row_named letters
  far_parts_at d (parts_of r) text r.1
