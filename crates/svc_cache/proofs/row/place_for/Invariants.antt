use Rattle.std.proofs.Common.{◌≡◌, ◌+◌}
use Rattle.svc_cache.specs.Rows.{IsSurvey, LacksBelow}
use Rattle.svc_cache.proofs.row.place_for.Given as goal

abbrev pub invariant-loop-place : goal.invariant-loop-place
invariant-loop-place l = record {
  searched : l.probes.searches ≡ l.fn.probes.searches + 1;
  visited : l.probes.places ≡ l.fn.probes.places + l.place;
  lacks : LacksBelow l.row l.place l.word.0;
  survey : IsSurvey l.row l.place l.survey;
}
