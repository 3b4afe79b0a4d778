-- The bits of a line, each under its own name, and what each step of the bus makes of them.
use Rattle.std.specs.Prelude.{ℕ, ◌/◌, ◌==◌, Bool, true, false, not, ◌&&◌, if◌then◌else◌}
use Rattle.std.specs.Int.RustNames.{bit_and}
use Rattle.svc_line.specs.declared.bits.LineBits.{LineBits}

-- V, S, L, C and T, and the number that the unnamed bits make
pub record Bits : Type 0 where
  pub valid : Bool
  pub store : Bool
  pub load : Bool
  pub commit : Bool
  pub stale : Bool
  pub unnamed : ℕ

-- the number has the bit of this weight
abbrev pub has_bit : ℕ → ℕ → Bool
has_bit n weight = bit_and n weight == weight

-- the bits of a number: V is 1, S is 2, L is 4, C is 8 and T is 16
abbrev pub bits_in : ℕ → Bits
bits_in n = record {
  valid = has_bit n 1;
  store = has_bit n 2;
  load = has_bit n 4;
  commit = has_bit n 8;
  stale = has_bit n 16;
  unnamed = n / 32;
}

-- the bits of a line
unfoldable pub bits_of : LineBits → Bits
bits_of line = bits_in line.0

-- no bit is set
abbrev pub no_bits : Bits
no_bits = record { valid = false; store = false; load = false; commit = false; stale = false; unnamed = 0 }

-- valid, and not committed
abbrev pub is_active : Bits → Bool
is_active b = b.valid && not b.commit

-- valid, and committed
abbrev pub is_committed : Bits → Bool
is_committed b = b.valid && b.commit

-- valid, and stored to
abbrev pub is_dirty : Bits → Bool
is_dirty b = b.valid && b.store

-- active, and loaded before its task stored it
abbrev pub is_exposed : Bits → Bool
is_exposed b = is_active b && b.load

-- committed, never stored to, and not stale
abbrev pub is_reusable : Bits → Bool
is_reusable b = is_committed b && not b.store && not b.stale

-- a load fills the line: it is valid, has L unless the value is the task's own, and has T if a later task has a version
abbrev pub after_load : (first_use overtaken : Bool) → Bits
after_load first_use overtaken = record no_bits { valid = true; load = first_use; stale = overtaken }

-- a store writes the line: it is valid and stored to, keeps L if it was exposed, and has T if a later task has a
-- version
abbrev pub after_store : Bits → (overtaken : Bool) → Bits
after_store b overtaken = record no_bits { valid = true; store = true; load = is_exposed b; stale = overtaken }

-- the unit's task is committed: C is set on an active line
abbrev pub after_commit : Bits → Bits
after_commit b = if is_active b then record b { commit = true } else b

-- the unit's task is squashed: an active line becomes invalid
abbrev pub after_squash : Bits → Bits
after_squash b = if is_active b then no_bits else b

-- the unit's next task takes over the line: L replaces C
abbrev pub after_reuse : Bits → Bits
after_reuse b = record b { commit = false; load = true }

-- a later task has stored the word: T is set
abbrev pub after_overtaking : Bits → Bits
after_overtaking b = record b { stale = true }
