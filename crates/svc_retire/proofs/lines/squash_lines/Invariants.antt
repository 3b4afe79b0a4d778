use Rattle.std.proofs.Common.{◌<◌, ◌≤◌, length}
use Rattle.svc_retire.proofs.Squashing.{IsSquashed}
use Rattle.svc_retire.proofs.lines.squash_lines.Given as goal

abbrev pub invariant-loop-cut : goal.invariant-loop-cut
invariant-loop-cut l = record {
  squashed : IsSquashed l.initial.caches l.caches l.queue l.position l.cut;
  none : length l.queue < l.position → l.cut ≤ l.position;
}
