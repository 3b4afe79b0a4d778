use Rattle.std.proofs.Common.{◌≡◌, length}
use Rattle.std.specs.Prelude.{All}
use Rattle.svc_core_laws.specs.Bursts.{IsAdvance}
use Rattle.svc_schedule.proofs.bursts.first_bursts.Given as goal

abbrev pub invariant-loop-unit : goal.invariant-loop-unit
invariant-loop-unit l = record {
  count : length l.bursts.items ≡ l.unit-index;
  each : All (IsAdvance l.image l.most) l.bursts.items;
}
