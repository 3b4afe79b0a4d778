use Rattle.std.specs.Prelude.{◌≡◌, []}
use Rattle.svc_script.specs.Events.{HasLedOn}
use Rattle.svc_script.proofs.events.lead_on.Given as goal

abbrev pub invariant-loop-step : goal.invariant-loop-step
invariant-loop-step l = record {
  led : HasLedOn l.steps l.step-index l.fn.recorder l.recorder;
  none : l.kept.items ≡ [];
}
