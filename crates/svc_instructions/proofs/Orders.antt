-- Each set of accesses has four bits.
use Rattle.std.proofs.Common.{ℕ, ◌<◌, List, lit<}
use Rattle.std.specs.Prelude.{IfSome}
use Rattle.std.specs.List.{AllByRecursion}
use Rattle.svc_tokens.specs.Names.{number_named}
use Rattle.svc_tokens.proofs.Rows.{number_small}
use Rattle.svc_instructions.specs.declared.reading.TheConstants.{ORDERS}

each_small : AllByRecursion (λ r. r.1 < 16) ORDERS
each_small = (lit< tt, (lit< tt, (lit< tt, (lit< tt, (lit< tt, (lit< tt, (lit< tt, (lit< tt, (lit< tt, (lit< tt, (lit< tt, (lit< tt, (lit< tt, (lit< tt, (lit< tt, tt)))))))))))))))

pub order_small : (name : List ℕ) → IfSome (number_named ORDERS name) (λ n. n < 16)
order_small name = number_small 16 ORDERS name each_small
