use Rattle.std.proofs.Common.{◌<◌, ℕ, Option, subst, sym}
use Rattle.std.specs.Prelude.{IfSome}
use Rattle.svc_instructions.proofs.Orders.{order_small}
use Rattle.svc_instructions.proofs.reading.order_named.Goals as goal

pub returns-clause-small : goal.returns-clause-small
returns-clause-small c = subst (λ (o : Option ℕ). IfSome o (λ n. n < 16)) (sym c.number_named.ensures) (order_small c.args.name.now)
