use Rattle.std.proofs.Common.{◌≡◌, map, option_map, take}
use Rattle.svc_line.specs.Line.{seen_line}
use Rattle.svc_vol.specs.Lines.{lines_at}
use Rattle.svc_vol.specs.Value.{active_lines, seen_held_line}
use Rattle.svc_vol.proofs.list.list_active.Given as goal

abbrev pub invariant-loop-place : goal.invariant-loop-place
invariant-loop-place l = map (option_map seen_held_line) l.active.items ≡ active_lines (lines_at (map (option_map seen_line) l.found)) (take l.place l.queue)
