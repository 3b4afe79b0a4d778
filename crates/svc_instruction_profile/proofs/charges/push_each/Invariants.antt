use Rattle.std.proofs.Common.{◌≡◌, ◌++◌, drop}
use Rattle.std.specs.Prelude.{flat_map}
use Rattle.svc_instruction_profile.specs.Charges.{own_charge}
use Rattle.svc_instruction_profile.proofs.charges.push_each.Given as goal

abbrev pub invariant-loop-expense : goal.invariant-loop-expense
invariant-loop-expense l =
    l.charges.items ++ flat_map (own_charge l.address l.entry) (drop l.expense-index l.expenses)
    ≡ l.fn.charges.items ++ flat_map (own_charge l.address l.entry) l.expenses
