use Rattle.std.proofs.Common.{take}
use Rattle.svc_explore.proofs.NoMatch.{MatchNone}
use Rattle.svc_explore.proofs.finding.find.Given as goal

abbrev pub invariant-loop-seen : goal.invariant-loop-seen
invariant-loop-seen l = MatchNone l.sought (take l.seen-index l.found)
