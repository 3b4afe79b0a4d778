use Rattle.std.proofs.Common.{◌++◌, ◌∙◌, Bool, None, ap, get_or}
use Rattle.svc_task_runs.proofs.Nobody.{nothing}
use Rattle.svc_instruction_profile.specs.declared.cost.Expense.TheVariants as expense
use Rattle.svc_instruction_profile.specs.Charges.{charged_where, loads_lost}
use Rattle.svc_instruction_profile.proofs.Charging.{no_load_left, one_load}
use Rattle.svc_instruction_profile.proofs.lost.push_loads.Goals as goal

pub loop-index-preserved : goal.loop-index-preserved
loop-index-preserved c =
    let a = get_or c.args.asked.now c.loop-index.index None in
    one_load c.args.run.now c.args.asked.now c.args.entries.now c.loop-index.index None nothing c.loop-index.charges.items c.push_where.new.charges.items
    (c.args.charges.now.items ++ loads_lost c.args.run.now c.args.asked.now c.args.entries.now) c.loop-index-test.true c.requires.same
    c.loop-index.invariant
    (c.in_ok-push_where.ensures ∙ ap (λ (b : Bool). c.loop-index.charges.items ++ charged_where b a expense.Lost) c.is_load_of.ensures)

pub returns : goal.returns
returns c =
    no_load_left c.args.run.now c.args.asked.now c.args.entries.now c.loop-index.index c.loop-index.charges.items
    (c.args.charges.now.items ++ loads_lost c.args.run.now c.args.asked.now c.args.entries.now) c.loop-index-test.false c.loop-index.invariant
