-- A valid line as callers see it, without its number.
use Rattle.std.specs.Prelude.{ℕ, ◌+◌, Bool, true, false, cond, not, ◌&&◌, ◌||◌, Option, Some, None}

-- its value and the bits S, L, C and T
pub record BusLine : Type 0 where
  pub value : ℕ
  pub store : Bool
  pub load : Bool
  pub commit : Bool
  pub stale : Bool

-- C clear
abbrev pub is_active_line : Option BusLine → Bool
is_active_line None = false
is_active_line (Some l) = not l.commit

-- C set
abbrev pub is_committed_line : Option BusLine → Bool
is_committed_line None = false
is_committed_line (Some l) = l.commit

-- S set
abbrev pub is_dirty_line : Option BusLine → Bool
is_dirty_line None = false
is_dirty_line (Some l) = l.store

-- C and S set
abbrev pub is_committed_dirty_line : Option BusLine → Bool
is_committed_dirty_line None = false
is_committed_dirty_line (Some l) = l.commit && l.store

-- C set, S and T clear
abbrev pub is_reusable_line : Option BusLine → Bool
is_reusable_line None = false
is_reusable_line (Some l) = l.commit && (not l.store && not l.stale)

-- active, and L set
abbrev pub is_exposed_line : Option BusLine → Bool
is_exposed_line None = false
is_exposed_line (Some l) = not l.commit && l.load

-- a line's value, 0 if there is none
abbrev pub value_of_line : Option BusLine → ℕ
value_of_line None = 0
value_of_line (Some l) = l.value

-- the value of an active dirty line
abbrev pub version_of_line : Option BusLine → Option ℕ
version_of_line None = None
version_of_line (Some l) = cond (not l.commit && l.store) (Some l.value) None

-- C is set
abbrev pub settled_line : Option BusLine → Option BusLine
settled_line None = None
settled_line (Some l) = Some (record l { commit = true })

-- C is cleared and L is set
abbrev pub reused_line : Option BusLine → Option BusLine
reused_line None = None
reused_line (Some l) = Some (record l { commit = false; load = true })

-- a committed dirty line becomes invalid
abbrev pub purged_line : Option BusLine → Option BusLine
purged_line None = None
purged_line (Some l) = cond (l.commit && l.store) None (Some l)

-- T is set on a committed line and, if the flag says so, on any line
abbrev pub marked_line : Bool → Option BusLine → Option BusLine
marked_line below None = None
marked_line below (Some l) = Some (record l { stale = l.stale || (l.commit || below) })

-- the bits as a number: V 1, S 2, L 4, C 8, T 16
abbrev pub bits_of : BusLine → ℕ
bits_of l = 1 + cond l.store 2 0 + cond l.load 4 0 + cond l.commit 8 0 + cond l.stale 16 0

-- the bits and the value of a valid line
abbrev pub bits_and_value : Option BusLine → Option (ℕ × ℕ)
bits_and_value None = None
bits_and_value (Some l) = Some (bits_of l, l.value)
