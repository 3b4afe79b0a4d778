-- How far branches and jumps go: to a value, or a number of bytes from here.
use Rattle.std.specs.Prelude.{ℕ, ◌+◌, length, Bool, List, Option, Some, None, if◌then◌else◌, codes, true, false, ◌||◌}
use Rattle.std.specs.Str.{bytes_eq}
use Rattle.svc_layout.specs.Options.{◌>>=◌}
use Rattle.svc_layout.specs.Layouts.{Layout}
use Rattle.svc_layout.specs.Places.{here}
use Rattle.svc_layout.specs.Addresses.{is_foreign}
use Rattle.svc_layout.specs.Notes.{is_turned}
use Rattle.svc_tokens.specs.Characters.{name_at, past_name}
use Rattle.svc_tokens.specs.Tokens.{Read}
use Rattle.svc_expressions.specs.declared.signed.Signed.{Signed}
use Rattle.svc_expressions.specs.Expressions.{value_at, added_at}
use Rattle.svc_expressions.specs.Numbers.{signed_of}
use Rattle.svc_instructions.specs.Steps.{distance, half_of, signed_bits, steps_of}

-- how far it is to an address; in the first pass, which knows no label's, it isn't far
abbrev pub reach : Layout → ℕ → Signed
reach d n = if d.known then distance (here d) n else record { negative = false; magnitude = 0 }

unfoldable pub reach_at : Layout → List ℕ → Read Signed
reach_at d text = do
  n ← value_at d text
  Some (reach d n.0, n.1)

-- behind a dot: the numbers that are added or taken away
unfoldable pub offset_from : List ℕ → Read Signed
offset_from text = do
  n ← added_at text
  s ← signed_of n.0
  Some (s, n.1)

-- how far it is from the instruction's own address: . + N or . - N, or to a value
unfoldable pub offset_at : Layout → List ℕ → Read Signed
offset_at d text = if bytes_eq (name_at text) (codes ".") then offset_from (past_name text) else reach_at d text

-- how many steps of two bytes it is, as a number of which half is forward
unfoldable pub target_at : (half : ℕ) → Layout → List ℕ → Read ℕ
target_at half d text = do
  s ← offset_at d text
  n ← steps_of half s.0
  Some (n, s.1)

-- how far a jump goes: 2^20 bytes back, and nearly as far forward
abbrev pub jump_at : Layout → List ℕ → Read ℕ
jump_at d text = target_at 524288 d text

-- whether a branch is two instructions, by the text from its target on: it is turned, or its target's name is weak or
-- another text's
abbrev pub is_far : Layout → List ℕ → Bool
is_far d text = is_turned d (length text) || is_foreign d (name_at text)

-- how far a branch of one instruction goes: 2^12 bytes back, and nearly as far forward
unfoldable pub branch_at : Layout → List ℕ → Read ℕ
branch_at d text = if is_far d text then None else target_at 2048 d text

-- as many steps from the next word, which stands two steps behind here
abbrev pub behind_word : Signed → Signed
behind_word s = if s.negative then record { negative = true; magnitude = s.magnitude + 2 } else distance 2 s.magnitude

unfoldable pub steps_behind : Signed → Option ℕ
steps_behind s = do
  h ← half_of s
  signed_bits 524288 (behind_word h)

-- how far a jump goes that stands a word behind here
unfoldable pub jump_behind_at : Layout → List ℕ → Read ℕ
jump_behind_at d text = do
  s ← offset_at d text
  n ← steps_behind s.0
  Some (n, s.1)
