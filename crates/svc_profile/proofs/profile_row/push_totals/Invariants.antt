use Rattle.std.proofs.Common.{◌≡◌, ◌++◌, map, take}
use Rattle.svc_profile.specs.ProfileRow.{total_field}
use Rattle.svc_profile.proofs.profile_row.push_totals.Given as goal

abbrev pub invariant-loop-total : goal.invariant-loop-total
invariant-loop-total l = l.fields ≡ l.fn.fields ++ map (total_field l.runs) (take l.total-index l.totals)
