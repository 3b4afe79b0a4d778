use Rattle.std.specs.Prelude.{All, take}
use Rattle.svc_script.specs.Events.{IsEvent}
use Rattle.svc_script.proofs.events.first_other.Given as goal

abbrev pub invariant-loop-index : goal.invariant-loop-index
invariant-loop-index l = All IsEvent (take l.index l.steps)
