use Rattle.std.proofs.Common.{◌≡◌, ◌++◌, take}
use Rattle.std.specs.Prelude.{flat_map}
use Rattle.svc_observations.specs.Rows.{row_of_sighting}
use Rattle.svc_observations.proofs.rows.put_sightings.Given as goal

abbrev pub invariant-loop-sighting : goal.invariant-loop-sighting
invariant-loop-sighting l = l.text.items ≡ l.fn.text.items ++ flat_map row_of_sighting (take l.sighting-index l.found)
