use Rattle.std.proofs.Common.{Bor, ℕ, List, ◌≡◌, ◌++◌, map, take}
use Rattle.svc_report.proofs.table.Fields.push_all.Given as goal

abbrev pub invariant-loop-text : goal.invariant-loop-text
invariant-loop-text l = l.self ≡ l.fn.self ++ map (λ (t : Bor (List ℕ)). t.now) (take l.text-index l.texts)
