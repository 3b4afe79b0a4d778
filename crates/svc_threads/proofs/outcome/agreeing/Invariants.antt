use Rattle.std.proofs.Common.{◌≡◌, length, map}
use Rattle.svc_threads.specs.Outcomes.{AllAgreeTo}
use Rattle.svc_threads.proofs.outcome.agreeing.Given as goal

abbrev pub invariant-loop-index : goal.invariant-loop-index
invariant-loop-index l = record { room : length l.ends ≡ 256; agree : AllAgreeTo l.index l.entries l.ends (map (λ v. v.items) l.lists) }
