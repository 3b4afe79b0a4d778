use Rattle.std.proofs.Common.{◌≡◌, drop}
use Rattle.std.specs.List.{list_any}
use Rattle.svc_image.specs.Format.{is_outside}
use Rattle.svc_image.proofs.parts.check_limits.Given as goal

-- none so far is outside
abbrev pub invariant-loop-limit : goal.invariant-loop-limit
invariant-loop-limit l = list_any (is_outside 65536) (drop l.limit-index l.limits) ≡ list_any (is_outside 65536) l.limits
