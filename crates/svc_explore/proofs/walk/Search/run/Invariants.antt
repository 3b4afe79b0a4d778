use Rattle.std.proofs.Common.{◌<◌, ◌≤◌, ◌*◌, length}
use Rattle.svc_explore.specs.Counts.{IsSound}
use Rattle.svc_explore.specs.Found.{are_seen}
use Rattle.svc_explore.specs.Search.{IsPartlyClosed}
use Rattle.svc_explore.proofs.walk.Search.run.Given as goal

abbrev pub invariant-loop-index : goal.invariant-loop-index
invariant-loop-index l = record {
  closed : IsPartlyClosed l.image l.config l.most l.self.keys.entries (are_seen l.self.found.items) l.index;
  inside : l.index ≤ length l.self.keys.entries;
  some : 0 < length l.self.keys.entries;
  moves : l.self.moves ≤ l.index * l.config.units;
  sound : IsSound l.image l.config l.most l.self;
}
