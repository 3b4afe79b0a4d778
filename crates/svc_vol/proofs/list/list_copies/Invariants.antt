use Rattle.std.proofs.Common.{map, option_map, ◌≤◌, length}
use Rattle.svc_line.specs.Line.{seen_line}
use Rattle.svc_vol.specs.Lines.{lines_at}
use Rattle.svc_vol.specs.Listed.{AreCopies}
use Rattle.svc_vol.proofs.list.list_copies.Given as goal

abbrev pub invariant-loop-unit : goal.invariant-loop-unit
invariant-loop-unit l = record {
  few : length l.committed.items ≤ l.unit;
  copies : AreCopies (lines_at (map (option_map seen_line) l.found)) l.unit l.committed.items;
}
