use Rattle.std.proofs.Common.{◌≡◌, drop}
use Rattle.std.specs.Prelude.{All}
use Rattle.svc_history.specs.Recorded.{Recorded}
use Rattle.svc_schedule.specs.Bursts.{AreReady}
use Rattle.svc_schedule.specs.Moves.{IsPassed}
use Rattle.svc_schedule.specs.Steps.{FirstMoves}
use Rattle.svc_schedule.proofs.step.ask_in_turn.Given as goal

abbrev pub invariant-loop-unit : goal.invariant-loop-unit
invariant-loop-unit l = record {
  same : l.recorder ≡ l.fn.recorder;
  first : (new : Recorded) → FirstMoves l.most l.fn.recorder new (drop l.unit-index l.units) → FirstMoves l.most l.fn.recorder new l.units;
  all : All (IsPassed l.most l.fn.recorder) (drop l.unit-index l.units) → All (IsPassed l.most l.fn.recorder) l.units;
  ready : AreReady l.fn.recorder.machine.image l.most l.bursts;
}
