use Rattle.std.proofs.Common.{ℕ, ◌<◌, ◌≤◌, ◌+◌, length}
use Rattle.svc_explore.specs.Counts.{IsSound}
use Rattle.svc_explore.specs.Found.{are_seen}
use Rattle.svc_explore.specs.Search.{GrowsTo, IsExploredAt}
use Rattle.svc_explore.proofs.walk.Search.explore_key.Given as goal

abbrev pub invariant-loop-unit : goal.invariant-loop-unit
invariant-loop-unit l = record {
  each : (unit : ℕ) → unit < l.unit → IsExploredAt l.image l.fn.config l.most l.self.keys.entries (are_seen l.self.found.items) l.index unit;
  keys : GrowsTo l.fn.self.keys.entries l.self.keys.entries;
  longer : length l.fn.self.keys.entries ≤ length l.self.keys.entries;
  found : GrowsTo (are_seen l.fn.self.found.items) (are_seen l.self.found.items);
  moves : l.self.moves ≤ l.fn.self.moves + l.unit;
  sound : IsSound l.image l.fn.config l.most l.self;
}
