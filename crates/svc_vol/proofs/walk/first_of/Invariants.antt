use Rattle.std.proofs.Common.{◌≡◌, ◌<◌, ℕ, true, Some, map, option_map}
use Rattle.svc_line.specs.Line.{seen_line}
use Rattle.svc_vol.specs.Lines.{lines_at, links_of, versions_of}
use Rattle.svc_vol.proofs.walk.first_of.Given as goal

abbrev pub invariant-loop-place : goal.invariant-loop-place
invariant-loop-place l = (k : ℕ) → k < l.place → versions_of (lines_at (map (option_map seen_line) l.found)) k ≡ true → (v : ℕ) × (versions_of (lines_at (map (option_map seen_line) l.found)) v ≡ true) × (links_of (lines_at (map (option_map seen_line) l.found)) v ≡ Some k)
