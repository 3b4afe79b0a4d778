use Rattle.std.proofs.Common.{take}
use Rattle.svc_explore_laws.specs.Closed.{IsIn}
use Rattle.svc_explore.specs.Found.{are_seen}
use Rattle.svc_explore.proofs.found.is_seen.Given as goal

abbrev pub invariant-loop-seen : goal.invariant-loop-seen
invariant-loop-seen l = IsIn l.what (are_seen (take l.seen-index l.found)) → ⊥
