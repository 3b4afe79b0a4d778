use Rattle.std.proofs.Common.{sym, subst}
use Rattle.std.specs.Prelude.{Contains}
use Rattle.svc_order.specs.Order.{StandsOnce}
use Rattle.svc_order.proofs.Orders.{numbers-push, once-append}
use Rattle.svc_order.proofs.queue.TaskQueue.push.Goals as goal

pub invariant_of-self : goal.invariant_of-self
invariant_of-self c =
    subst StandsOnce (sym (numbers-push c.self.inside.units.items c.push.new.self.items c.args.unit c.push.ensures.items)) (once-append _ c.args.unit.0 (λ there. c.requires.idle (subst (λ units. Contains units c.args.unit.0) c.self.view_is there)) c.self.invariant)
