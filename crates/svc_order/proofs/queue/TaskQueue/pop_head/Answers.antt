use Rattle.std.proofs.Common.{◌≡◌, ◌∙◌, ap, subst, sym, length, arith}
use Rattle.svc_order.specs.Order.{StandsOnce}
use Rattle.svc_order.proofs.Orders.{numbers-pop, once-tail, length-numbers}
use Rattle.svc_order.proofs.queue.TaskQueue.pop_head.Goals as goal

pub invariant_of-self : goal.invariant_of-self
invariant_of-self c =
    let count : length c.args.self.now ≡ length c.self.inside.units.items = ap length (sym c.self.view_is) ∙ length-numbers c.self.inside.units.items in
    once-tail _ _ (subst StandsOnce (numbers-pop c.self.inside.units.items c.remove.new.self.items c.remove.result (omega (arith, c.requires)) c.remove.ensures.value c.remove.ensures.items) c.self.invariant)
