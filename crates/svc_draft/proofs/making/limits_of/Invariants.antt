use Rattle.std.proofs.Common.{◌≡◌, map, take, unwrap_or}
use Rattle.svc_draft.proofs.making.limits_of.Given as goal

-- those so far
abbrev pub invariant-loop-mark : goal.invariant-loop-mark
invariant-loop-mark l = l.limits.items ≡ map (λ m. unwrap_or m.limit l.limit) (take l.mark-index l.marks)
