-- A line as contracts see it.
use Rattle.std.specs.Prelude.{ℕ, Option, option_map}
use Rattle.svc_base.specs.declared.ids.UnitId.{UnitId}
use Rattle.svc_line.specs.Bits.{Bits, bits_of}
use Rattle.svc_line.specs.declared.line.Line.{Line}

-- its value, its bits by their names, and the unit that it links to
pub record SeenLine : Type 0 where
  pub value : ℕ
  pub bits : Bits
  pub next : Option ℕ

-- a line's value, bits and link
abbrev pub seen_line : Line → SeenLine
seen_line line =
    record { value = line.value; bits = bits_of line.bits; next = option_map (λ (unit : UnitId). unit.0) line.next }
