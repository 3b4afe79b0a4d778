use Rattle.std.proofs.Common.{◌∙◌, ◌++◌, List, ℕ, ap, sym, slice_get}
use Rattle.svc_observations.specs.Rosters.{unit_told}
use Rattle.svc_observations.proofs.Rosters.{more_units}
use Rattle.svc_observations.proofs.sight.units_of.Goals as goal

pub loop-place-preserved : goal.loop-place-preserved
loop-place-preserved c =
    let tasks = c.args.machine.now.plain.tasks in
    c.in_ok-push_unit_at.ensures ∙ ap (λ (l : List ℕ). l ++ unit_told (slice_get tasks c.loop-place.place)) c.loop-place.invariant ∙ sym (more_units c.loop-place.place tasks)
