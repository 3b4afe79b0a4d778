use Rattle.std.proofs.Common.{◌≡◌, ◌+◌, length}
use Rattle.svc_schedule.specs.Bursts.{AreReady}
use Rattle.svc_schedule.specs.Steps.{Steps}
use Rattle.svc_schedule.proofs.run.continue_schedule.Given as goal

abbrev pub invariant-loop : goal.invariant-loop
invariant-loop g l = record {
  image : l.recorder.machine.image ≡ l.fn.recorder.machine.image;
  config : l.recorder.machine.config ≡ l.fn.recorder.machine.config;
  count : length l.recorder.entries ≡ length l.fn.recorder.entries + l.counter;
  ready : AreReady l.fn.recorder.machine.image l.burst l.bursts.items;
  steps : Steps g.P.Policy.gives l.burst l.counter l.fn.policy l.policy l.fn.recorder l.recorder;
}
