use Rattle.std.proofs.Common.{◌≡◌, ◌++◌, ℕ, List, Some, take, drop}
use Rattle.svc_record_limit.specs.Places.{passed}
use Rattle.svc_record_limit.proofs.gauge.Gauge.pass_all.Given as goal

abbrev pub invariant-loop-count : goal.invariant-loop-count
invariant-loop-count l = (rest : List ℕ) → passed (Some l.initial.self) (l.bytes ++ rest) ≡ take l.count l.bytes ++ passed (Some l.self) (drop l.count l.bytes ++ rest)
