use Rattle.std.proofs.Common.{◌∙◌, ap, sym}
use Rattle.svc_history.specs.Moves.{code_move}
use Rattle.svc_threads.proofs.Leasing.{runs_own}
use Rattle.svc_threads.proofs.unit.make_move.Goals as goal

pub attempt-requires-in-RunOn : goal.attempt-requires-in-RunOn
attempt-requires-in-RunOn g c =
    c.refill.ensures.lease.0 ∙ runs_own c.args.unit c.in-Ok.glance c.in-RunOn.lease.now (sym c.next_move.ensures ∙ ap code_move c.in-RunOn.is) (c.in-Ok.ensures {u = tt})
