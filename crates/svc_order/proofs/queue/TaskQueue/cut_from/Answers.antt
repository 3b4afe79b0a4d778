use Rattle.std.proofs.Common.{◌∙◌, ap, sym, subst, take}
use Rattle.svc_order.specs.Order.{StandsOnce}
use Rattle.svc_order.proofs.Orders.{numbers-cut, once-take}
use Rattle.svc_order.proofs.queue.TaskQueue.cut_from.Goals as goal

pub invariant_of-self : goal.invariant_of-self
invariant_of-self c =
    subst StandsOnce (sym (numbers-cut c.self.inside.units.items c.truncate.new.self.items c.args.position c.truncate.ensures.items)) (once-take c.args.position _ c.self.invariant)

pub returns : goal.returns
returns c =
    numbers-cut c.self.inside.units.items c.truncate.new.self.items c.args.position c.truncate.ensures.items ∙ ap (take c.args.position) c.self.view_is
