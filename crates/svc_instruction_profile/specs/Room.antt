-- Counts that have room for one more charge.
use Rattle.std.specs.Prelude.{◌+◌, ◌<◌, ◌^◌}
use Rattle.svc_instruction_profile.specs.declared.cost.Cost.{Cost}
use Rattle.svc_instruction_profile.specs.declared.cost.Expense.{Expense}
use Rattle.svc_instruction_profile.specs.declared.cost.Expense.TheVariants as expense
use Rattle.svc_instruction_profile.specs.Rows.{one_of}

pub record HasRoom (x : Expense) (k : Cost) : Type 0 where
  pub loads : k.loads + one_of expense.Load x < 2 ^ 64
  pub stores : k.stores + one_of expense.Store x < 2 ^ 64
  pub outputs : k.outputs + one_of expense.Output x < 2 ^ 64
  pub lost : k.lost + one_of expense.Lost x < 2 ^ 64
  pub found : k.found + one_of expense.Found x < 2 ^ 64
  pub suffered : k.suffered + one_of expense.Suffered x < 2 ^ 64
