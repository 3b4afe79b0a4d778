use Rattle.svc_moves.proofs.OneTurn.{leased}
use Rattle.svc_moves.proofs.burst.one_turn.Goals as goal

pub returns : goal.returns
returns c = leased c.args.image.now c.args.lease.now c.advance.result c.advance.ensures.lease c.advance.ensures.advance
