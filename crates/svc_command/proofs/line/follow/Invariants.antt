use Rattle.std.proofs.Common.{drop}
use Rattle.svc_command.specs.Line.{AreInOrder, texts}
use Rattle.svc_command.proofs.InOrder.{texts_at}
use Rattle.svc_command.proofs.line.follow.Given as goal

-- if the later ones stand in what is left, all stand in the whole
abbrev pub invariant-loop-text : goal.invariant-loop-text
invariant-loop-text l =
    AreInOrder (texts_at (drop l.text-index l.given)) (texts l.rest) → AreInOrder (texts_at l.given) (texts l.words)
