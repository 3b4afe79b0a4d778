use Rattle.std.proofs.Common.{◌≡◌, ◌+◌, ℕ, length, get_or, map, option_map}
use Rattle.svc_line.specs.Line.{seen_line}
use Rattle.svc_links_laws.specs.Walks.{IsWalkSoFar}
use Rattle.svc_vol.specs.Lines.{lines_at, links_of, versions_of}
use Rattle.svc_vol.proofs.walk.oldest_first.Given as goal

abbrev pub invariant-loop-count : goal.invariant-loop-count
invariant-loop-count l = record {
  walk : IsWalkSoFar (versions_of (lines_at (map (option_map seen_line) l.found))) (links_of (lines_at (map (option_map seen_line) l.found))) l.order.items;
  count : length l.order.items ≡ l.count;
  last : (i : ℕ) → i + 1 ≡ length l.order.items → get_or l.order.items i 0 ≡ l.last;
}
