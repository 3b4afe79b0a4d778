use Rattle.std.proofs.Common.{◌≡◌, ◌++◌, take}
use Rattle.std.specs.Prelude.{flat_map}
use Rattle.svc_profile.specs.Profile.{served_row}
use Rattle.svc_profile.proofs.profile.put_served.Given as goal

abbrev pub invariant-loop-served : goal.invariant-loop-served
invariant-loop-served l = l.text.items ≡ l.fn.text.items ++ flat_map (served_row l.counts) (take l.served-index l.suppliers)
