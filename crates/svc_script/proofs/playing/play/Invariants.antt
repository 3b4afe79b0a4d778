use Rattle.svc_script.specs.Playing.{HasPlayed}
use Rattle.svc_script.proofs.playing.play.Given as goal

abbrev pub invariant-loop-step : goal.invariant-loop-step
invariant-loop-step g l = HasPlayed l.steps l.step-index l.fn.recorder l.fn.kept.items l.recorder l.kept.items (g.O.Write.contents l.fn.out) (g.O.Write.contents l.out)
