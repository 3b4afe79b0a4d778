use Rattle.std.proofs.Common.{refl}
use Rattle.svc_history_laws.specs.Board.{counted_on}
use Rattle.svc_history_laws.specs.Stories.{story_after}
use Rattle.svc_history_laws.proofs.rows.story_of_two_units.Goals as goal

pub returns : goal.returns
unfolding counted_on story_after
returns c = record { first = refl; second = refl; third = refl; events = refl; assigned = refl }
