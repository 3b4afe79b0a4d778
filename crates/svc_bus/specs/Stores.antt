-- How a store changes the lines of the caches.
use Rattle.std.specs.Prelude.{◌≡◌, ℕ, ◌==◌, true, false, cond, ◌&&◌, Option, List}
use Rattle.svc_line.specs.Line.{SeenLine}
use Rattle.svc_cache.specs.Lines.{squash_line}
use Rattle.svc_cache.specs.Places.{CacheValue}
use Rattle.svc_bus_laws.specs.LineTable.{is_cut}
use Rattle.svc_vol.specs.declared.held_line.HeldLine.{HeldLine}
use Rattle.svc_vol.specs.Lines.{is_committed_version}
use Rattle.svc_vcl.specs.Planned.{is_named}
use Rattle.svc_retire.specs.Caches.{held_line}
use Rattle.svc_retire.specs.Purges.{purged_line}
use Rattle.svc_bus.specs.Lines.{LinesByUnit, with_line}
use Rattle.svc_bus.specs.Marks.{AreHeld, overtaken_where}

-- the unit's line of the word is the stored one, the word's other lines are purged, the lines of the named units get T,
-- and the one before links to the writer
abbrev pub stored_line : (lines : LinesByUnit) → (unit word : ℕ) → Option SeenLine → (previous : Option ℕ)
    → (changed : List HeldLine) → LinesByUnit
stored_line lines unit word line previous changed u a =
    overtaken_where previous unit u ((a == word) && is_named changed u) (with_line lines unit word line purged_line u a)

-- and only the first n tasks are left: active lines of the other tasks' units are invalid
abbrev pub left_line : (units : List ℕ) → (left u : ℕ) → Option SeenLine → Option SeenLine
left_line units left u line = cond (is_cut units left u) (squash_line line) line

-- at most one line changes in each other cache, and none of these in the unit's own: a marked line is not purged
pub record ChangeOnce (caches : List CacheValue) (unit word : ℕ) (changed : List HeldLine) : Type 0 where
  pub others : is_named changed unit ≡ false
  pub apart : (u : ℕ) → is_named changed u ≡ true → is_committed_version (held_line caches u word) ≡ false

-- a store of the unit can change these lines: each is its unit's line of the word, and changes once
pub record CanChange (caches : List CacheValue) (unit word : ℕ) (changed : List HeldLine) : Type 0 where
  pub held : AreHeld caches word changed
  pub once : ChangeOnce caches unit word changed
