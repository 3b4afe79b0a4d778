use Rattle.std.proofs.Common.{◌++◌, ◌∙◌, Bool, ap, get_or}
use Rattle.std.specs.Prelude.{flat_map}
use Rattle.svc_instruction_profile.specs.declared.cost.Expense.TheVariants as expense
use Rattle.svc_instruction_profile.specs.Charges.{charged_where, own_charge}
use Rattle.svc_instruction_profile.proofs.Charging.{no_part_left, one_part}
use Rattle.svc_instruction_profile.proofs.charges.push_each.Goals as goal

pub loop-expense-preserved : goal.loop-expense-preserved
loop-expense-preserved c =
    let f = own_charge c.args.address c.args.entry.now in
    let x = get_or c.args.expenses.now c.loop-expense.expense-index expense.Asked in
    one_part f c.args.expenses.now c.loop-expense.expense-index expense.Asked c.loop-expense.charges.items c.push_where.new.charges.items
    (c.args.charges.now.items ++ flat_map f c.args.expenses.now) c.loop-expense-test.true c.loop-expense.invariant
    (c.in_ok-push_where.ensures ∙ ap (λ (b : Bool). c.loop-expense.charges.items ++ charged_where b c.args.address x) c.does.ensures)

pub returns : goal.returns
returns c =
    let f = own_charge c.args.address c.args.entry.now in
    no_part_left f c.args.expenses.now c.loop-expense.expense-index c.loop-expense.charges.items
    (c.args.charges.now.items ++ flat_map f c.args.expenses.now) c.loop-expense-test.false c.loop-expense.invariant
