use Rattle.std.proofs.Common.{◌≡◌}
use Rattle.svc_layout.specs.Areas.{with_copies}
use Rattle.svc_draft.proofs.area.Area.push_copies.Given as goal

-- what the copies that are left make, all of them make
abbrev pub invariant-loop-left : goal.invariant-loop-left
invariant-loop-left l = with_copies l.left l.unit l.self ≡ with_copies l.fn.count l.unit l.initial.self

abbrev pub decreases-loop-left : goal.decreases-loop-left
decreases-loop-left l = l.left
