use Rattle.std.proofs.Common.{◌≡◌, ◌++◌, map, take}
use Rattle.svc_profile.specs.ProfileRow.{served_field}
use Rattle.svc_profile.proofs.profile_row.push_served.Given as goal

abbrev pub invariant-loop-served : goal.invariant-loop-served
invariant-loop-served l = l.fields ≡ l.fn.fields ++ map (served_field l.counts) (take l.served-index l.suppliers)
