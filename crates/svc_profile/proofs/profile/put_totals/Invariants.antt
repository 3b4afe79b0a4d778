use Rattle.std.proofs.Common.{◌≡◌, ◌++◌, take}
use Rattle.std.specs.Prelude.{flat_map}
use Rattle.svc_profile.specs.Profile.{total_row}
use Rattle.svc_profile.proofs.profile.put_totals.Given as goal

abbrev pub invariant-loop-total : goal.invariant-loop-total
invariant-loop-total l = l.text.items ≡ l.fn.text.items ++ flat_map (total_row l.runs) (take l.total-index l.totals)
