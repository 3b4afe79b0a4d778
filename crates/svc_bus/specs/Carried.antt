-- What a read does to the lines and the memory, by who supplied its value.
use Rattle.std.specs.Prelude.{ℕ, Bool, true, false, Option}
use Rattle.svc_base.specs.declared.served.Served.{Served}
use Rattle.svc_base.specs.declared.served.Served.TheVariants.{Hit, Reuse, Version, Spill, Committed, Memory}
use Rattle.svc_line.specs.Line.{SeenLine}
use Rattle.svc_bus_laws.specs.Steps.{with_at}
use Rattle.svc_retire.specs.Purges.{purged_line}
use Rattle.svc_bus.specs.Lines.{LinesByUnit, with_line}

-- the unit's own active line supplied it
abbrev pub is_hit : Served → Bool
is_hit Hit = true
is_hit Reuse = false
is_hit (Version unit) = false
is_hit Spill = false
is_hit (Committed unit) = false
is_hit Memory = false

-- a hit changes no line, and a reuse the unit's own; otherwise there was a bus request, which purged the word's other
-- lines
abbrev pub lines_after : Served → LinesByUnit → (unit word : ℕ) → Option SeenLine → LinesByUnit
lines_after Hit lines unit word line = lines
lines_after Reuse lines unit word line = with_line lines unit word line (λ other. other)
lines_after (Version supplier) lines unit word line = with_line lines unit word line purged_line
lines_after Spill lines unit word line = with_line lines unit word line purged_line
lines_after (Committed supplier) lines unit word line = with_line lines unit word line purged_line
lines_after Memory lines unit word line = with_line lines unit word line purged_line

-- a bus request leaves the committed value in the memory
abbrev pub memory_after : Served → (ℕ → ℕ) → (word : ℕ) → (committed : ℕ) → ℕ → ℕ
memory_after Hit memory word committed = memory
memory_after Reuse memory word committed = memory
memory_after (Version supplier) memory word committed = with_at memory word committed
memory_after Spill memory word committed = with_at memory word committed
memory_after (Committed supplier) memory word committed = with_at memory word committed
memory_after Memory memory word committed = with_at memory word committed
