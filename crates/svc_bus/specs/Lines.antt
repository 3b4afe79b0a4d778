-- The lines of a list of caches, as a step changes them and as callers of the bus see them.
use Rattle.std.specs.Prelude.{ℕ, ◌==◌, cond, Option, List}
use Rattle.svc_line.specs.Line.{SeenLine}
use Rattle.svc_cache.specs.Places.{CacheValue}
use Rattle.svc_bus_laws.specs.BusLine.{BusLine}
use Rattle.svc_vol.specs.Lines.{link_of}
use Rattle.svc_vcl.specs.Described.{bus_line_of}
use Rattle.svc_retire.specs.Caches.{held_line}

-- the lines of caches, by unit and word
abbrev pub LinesByUnit : Type 0
LinesByUnit = ℕ → ℕ → Option SeenLine

-- the unit's line of the word as callers see it, and the unit that it links to
abbrev pub line_in : List CacheValue → ℕ → ℕ → Option BusLine
line_in caches u a = bus_line_of (held_line caches u a)

abbrev pub link_in : List CacheValue → ℕ → ℕ → Option ℕ
link_in caches u a = link_of (held_line caches u a)

-- one line of a word changes, and the word's other lines by a rule
abbrev pub with_line : LinesByUnit → ℕ → ℕ → Option SeenLine → (Option SeenLine → Option SeenLine) → LinesByUnit
with_line lines u a line others v b = cond (b == a) (cond (v == u) line (others (lines v b))) (lines v b)
