-- Names that are given a value or zeros, or that texts share.
use Rattle.std.specs.Prelude.{ℕ, ◌+◌, ◌-◌, ◌%◌, ◌^◌, Bool, true, false, not, ◌||◌, List, Option, Some, None}
use Rattle.std.specs.Prelude.{if◌then◌else◌, codes, option_map}
use Rattle.std.specs.Str.{bytes_eq}
use Rattle.svc_layout.specs.declared.source.Linkage.{Linkage}
use Rattle.svc_layout.specs.declared.section.Section.{Section}
use Rattle.svc_layout.specs.declared.section.Section.TheVariants as section
use Rattle.svc_layout.specs.declared.section.Spot.{Spot}
use Rattle.svc_layout.specs.declared.statement.Next.TheVariants as go
use Rattle.svc_layout.specs.declared.statement.Statement.{Statement}
use Rattle.svc_layout.specs.declared.statement.Statement.TheVariants as say
use Rattle.svc_layout.specs.Options.{◌>>=◌}
use Rattle.svc_layout.specs.Layouts.{Layout}
use Rattle.svc_layout.specs.Places.{spot_here}
use Rattle.svc_layout.specs.Addresses.{spot_of}
use Rattle.svc_tokens.specs.Characters.{found, name_at, past_name, mark_at}
use Rattle.svc_tokens.specs.Tokens.{Read}
use Rattle.svc_expressions.specs.Numbers.{number_below}
use Rattle.svc_expressions.specs.Expressions.{expression_at, added_at}
use Rattle.svc_asm_lines.specs.Lists.{going_at}
use Rattle.svc_asm_lines.specs.Statements.{end_at, is_label}

-- what a name stands for, by the lines above or the pass before; in a first pass its line may yet come
abbrev pub spot_or_later : Layout → List ℕ → Option Spot → Option (Option Spot)
spot_or_later d name (Some s) = Some (Some s)
spot_or_later d name None = if d.known || not (is_label name) then None else Some None

-- what a dot or a name before stands for
unfoldable pub spot_named : Layout → List ℕ → Option (Option Spot)
spot_named d name =
    if bytes_eq name (codes ".") then Some (Some (spot_here d)) else spot_or_later d name (spot_of d name)

-- a place, and what is added to it or taken away
abbrev pub spot_plus : ℕ → Spot → Spot
spot_plus n s = record { section = s.section; offset = (s.offset + n) % 2 ^ 32 }

unfoldable pub sum_at : Option Spot → List ℕ → Read (Option Spot)
sum_at s text = option_map (λ n. (option_map (spot_plus n.0) s, n.1)) (added_at text)

-- how far a place is behind another of its section, as a plain number
abbrev pub is_same : Section → Section → Bool
is_same section.Text section.Text = true
is_same section.Rodata section.Rodata = true
is_same section.Data section.Data = true
is_same section.Bss section.Bss = true
is_same _ _ = false

abbrev pub spot_difference : Spot → Spot → Spot
spot_difference s t = record { section = section.Text; offset = (s.offset + (2 ^ 32 - t.offset)) % 2 ^ 32 }

abbrev pub difference : Option Spot → Option Spot → Option (Option Spot)
difference (Some s) (Some t) = if is_same s.section t.section then Some (Some (spot_difference s t)) else None
difference _ _ = Some None

-- a minus sign and a name
abbrev pub with_label : List ℕ → Option (List ℕ)
with_label text = if is_label (name_at text) then Some text else None

unfoldable pub minus_at : List ℕ → Option (List ℕ)
minus_at text = mark_at 45 text >>= with_label

-- what follows a place: a name that is taken away, and numbers
unfoldable pub less_at : Layout → Option Spot → List ℕ → Read (Option Spot)
less_at d s text = do
  t ← spot_named d (name_at text)
  spot_difference ← difference s t
  sum_at spot_difference (past_name text)

unfoldable pub behind_at : Layout → Option Spot → List ℕ → Read (Option Spot)
behind_at d s text = found (minus_at text) (λ name. less_at d s name) (sum_at s text)

-- what a number stands for, and a dot or a name before with what follows it
unfoldable pub spot_at : Layout → List ℕ → Read (Option Spot)
spot_at d text =
    found (expression_at None text)
    (λ n. Some (Some (record { section = section.Text; offset = n.0 % 2 ^ 32 }), n.1))
    (spot_named d (name_at text) >>= (λ s. behind_at d s (past_name text)))

-- a name and the mark behind it
unfoldable pub named_at : (mark : ℕ) → List ℕ → Option (List ℕ)
named_at mark text = if is_label (name_at text) then mark_at mark (past_name text) else None

-- a name, a mark and what the name stands for
unfoldable pub symbol_at : Layout → (mark : ℕ) → List ℕ → Read Statement
symbol_at d mark text = do
  rest ← named_at mark text
  s ← spot_at d rest
  tail ← end_at s.1
  Some (say.Symbol s.0, tail)

-- a name, an equals sign and what the name stands for; a dot is no such name
unfoldable pub equal_at : Layout → List ℕ → Read Statement
equal_at d text = if bytes_eq (name_at text) (codes ".") then None else symbol_at d 61 text

-- an alignment, which is 4 where none stands
unfoldable pub step_at : List ℕ → Read ℕ
step_at text = found (mark_at 44 text) (λ rest. number_below (2 ^ 32) rest) (Some (4, text))

-- a name, a size and an alignment
unfoldable pub room_at : List ℕ → Read (ℕ × ℕ)
room_at text = do
  rest ← named_at 44 text
  n ← number_below (2 ^ 32) rest
  step ← step_at n.1
  tail ← end_at step.1
  Some ((n.0, step.0), tail)

abbrev pub common_at : List ℕ → Read Statement
common_at text = option_map (λ r. (say.Common r.0.0 r.0.1, r.1)) (room_at text)

abbrev pub local_common_at : List ℕ → Read Statement
local_common_at text = option_map (λ r. (say.LocalCommon r.0.0 r.0.1, r.1)) (room_at text)

-- a name of this linkage, and perhaps more of them
unfoldable pub bound_at : Linkage → List ℕ → Read Statement
bound_at l text =
    if is_label (name_at text)
    then option_map (λ n. (say.Bound l n.0, n.1)) (going_at (go.Bound l) (past_name text))
    else None
