use Rattle.std.specs.Prelude.{◌≡◌, replicate, None}
use Rattle.svc_script.proofs.playing.no_bursts.Given as goal

abbrev pub invariant-loop-unit : goal.invariant-loop-unit
invariant-loop-unit l = l.kept.items ≡ replicate l._unit None
