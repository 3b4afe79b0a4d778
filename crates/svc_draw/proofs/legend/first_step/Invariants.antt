use Rattle.std.proofs.Common.{◌≡◌, drop}
use Rattle.std.specs.List.{find}
use Rattle.svc_draw.specs.Legend.{has_room}
use Rattle.svc_draw.proofs.legend.first_step.Given as goal

abbrev pub invariant-loop-step : goal.invariant-loop-step
invariant-loop-step l = find (has_room l.shown) l.steps ≡ find (has_room l.shown) (drop l.step-index l.steps)
