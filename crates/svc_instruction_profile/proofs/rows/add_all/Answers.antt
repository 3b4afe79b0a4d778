use Rattle.svc_instruction_profile.specs.declared.charge.Charge.{Charge}
use Rattle.svc_instruction_profile.specs.declared.cost.Expense.TheVariants as expense
use Rattle.svc_instruction_profile.proofs.CostRows.{next_charge, room}
use Rattle.svc_instruction_profile.proofs.rows.add_all.Goals as goal

abbrev nothing : Charge
nothing = record { address = 0; expense = expense.Asked }

pub loop-charge-preserved : goal.loop-charge-preserved
loop-charge-preserved c =
    next_charge c.args.charges.now c.loop-charge.charge-index nothing c.loop-charge.rows.entries c.add.new.rows.entries c.loop-charge-test.true
    c.loop-charge.invariant c.in_ok-add.ensures

pub add-requires : goal.add-requires
add-requires c =
    room c.args.charges.now c.loop-charge.charge-index nothing c.loop-charge.rows.entries c.loop-charge-test.true c.loop-charge.invariant c.requires.few
