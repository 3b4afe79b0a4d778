use Rattle.std.proofs.Common.{◌<◌, ℕ, Option, subst, sym}
use Rattle.std.specs.Prelude.{IfSome}
use Rattle.svc_tokens.proofs.Rows.{register_small}
use Rattle.svc_tokens.proofs.names.abi_named.Goals as goal

pub returns-clause-small : goal.returns-clause-small
returns-clause-small c = subst (λ (o : Option ℕ). IfSome o (λ n. n < 32)) (sym c.number_named.ensures) (register_small c.args.name.now)
