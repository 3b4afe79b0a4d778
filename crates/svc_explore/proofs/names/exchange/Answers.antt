use Rattle.svc_explore.proofs.UnitOrders.{exchanged}
use Rattle.svc_explore.proofs.names.exchange.Goals as goal

pub returns-clause-kept : goal.returns-clause-kept
returns-clause-kept c = exchanged c.args.order.now.items c.swap.new.self.items c.args.place c.args.other c.requires.place c.requires.other c.swap.ensures.items
