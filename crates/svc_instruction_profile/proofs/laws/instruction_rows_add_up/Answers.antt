use Rattle.std.proofs.Common.{◌∙◌}
use Rattle.svc_history_laws.specs.declared.entry.CutKind.TheVariants as cause
use Rattle.svc_report.specs.Summary.{is_cause}
use Rattle.svc_task_runs.specs.Runs.{is_load, is_store}
use Rattle.svc_instruction_profile.specs.declared.cost.Expense.TheVariants as expense
use Rattle.svc_instruction_profile.specs.Charges.{charges_of, is_output}
use Rattle.svc_instruction_profile.proofs.CostRows.{all_rows, of_found, of_loads, of_lost, of_outputs, of_stores, of_suffered}
use Rattle.svc_instruction_profile.proofs.LostLoads.{lost_all}
use Rattle.svc_instruction_profile.proofs.Totals.{own_all, own_found, own_loads, own_outputs, own_stores, suffered_all}
use Rattle.svc_instruction_profile.proofs.laws.instruction_rows_add_up.Goals as goal

pub returns-clause-loads : goal.returns-clause-loads
returns-clause-loads c =
    all_rows (λ k. k.loads) expense.Load of_loads (charges_of c.args.asked.now c.args.entries.now)
    ∙ own_all expense.Load (λ e. is_load e.reply) own_loads c.args.asked.now c.args.entries.now c.requires.asks

pub returns-clause-stores : goal.returns-clause-stores
returns-clause-stores c =
    all_rows (λ k. k.stores) expense.Store of_stores (charges_of c.args.asked.now c.args.entries.now)
    ∙ own_all expense.Store (λ e. is_store e.reply) own_stores c.args.asked.now c.args.entries.now c.requires.asks

pub returns-clause-outputs : goal.returns-clause-outputs
returns-clause-outputs c =
    all_rows (λ k. k.outputs) expense.Output of_outputs (charges_of c.args.asked.now c.args.entries.now)
    ∙ own_all expense.Output (λ e. is_output e.reply) own_outputs c.args.asked.now c.args.entries.now c.requires.asks

pub returns-clause-lost : goal.returns-clause-lost
returns-clause-lost c =
    all_rows (λ k. k.lost) expense.Lost of_lost (charges_of c.args.asked.now c.args.entries.now)
    ∙ lost_all c.args.asked.now c.args.entries.now c.requires.asks

pub returns-clause-found : goal.returns-clause-found
returns-clause-found c =
    all_rows (λ k. k.found) expense.Found of_found (charges_of c.args.asked.now c.args.entries.now)
    ∙ own_all expense.Found (λ e. is_cause cause.Violation e.cause) own_found c.args.asked.now c.args.entries.now c.requires.asks

pub returns-clause-suffered : goal.returns-clause-suffered
returns-clause-suffered c read =
    all_rows (λ k. k.suffered) expense.Suffered of_suffered (charges_of c.args.asked.now c.args.entries.now)
    ∙ suffered_all c.args.asked.now c.args.entries.now c.requires.asks read
