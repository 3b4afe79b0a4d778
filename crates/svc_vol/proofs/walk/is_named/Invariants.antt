use Rattle.std.proofs.Common.{◌≡◌, ◌<◌, ℕ, false, map, option_map}
use Rattle.svc_line.specs.Line.{seen_line}
use Rattle.svc_vol.specs.Lines.{lines_at}
use Rattle.svc_vol.specs.Walked.{is_before}
use Rattle.svc_vol.proofs.walk.is_named.Given as goal

abbrev pub invariant-loop-place : goal.invariant-loop-place
invariant-loop-place l = (k : ℕ) → k < l.place → is_before (lines_at (map (option_map seen_line) l.found) k) l.unit ≡ false
