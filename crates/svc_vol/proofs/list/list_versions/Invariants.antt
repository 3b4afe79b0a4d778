use Rattle.std.proofs.Common.{map, option_map}
use Rattle.svc_line.specs.Line.{seen_line}
use Rattle.svc_vol.specs.Lines.{lines_at}
use Rattle.svc_vol.specs.Listed.{ListsAfter}
use Rattle.svc_vol.proofs.list.list_versions.Given as goal

abbrev pub invariant-loop-unit : goal.invariant-loop-unit
invariant-loop-unit l = ListsAfter (lines_at (map (option_map seen_line) l.found)) l.initial.committed.items l.order l.unit-index l.committed.items
