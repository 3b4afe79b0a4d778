use Rattle.std.proofs.Common.{◌≡◌, take}
use Rattle.svc_profile.specs.Profile.{total}
use Rattle.svc_profile.proofs.totals.Total.over.Given as goal

abbrev pub invariant-loop-run : goal.invariant-loop-run
invariant-loop-run l = l.sum ≡ total (take l.run-index l.runs) l.self
