use Rattle.std.proofs.Common.{◌∙◌}
use Rattle.svc_machine_laws.proofs.Given.{given}
use Rattle.svc_instruction_profile.specs.declared.cost.Expense.TheVariants as expense
use Rattle.svc_instruction_profile.specs.Addresses.{addresses}
use Rattle.svc_instruction_profile.specs.Charges.{charges_of}
use Rattle.svc_instruction_profile.proofs.Asking.{history_asks}
use Rattle.svc_instruction_profile.proofs.CostRows.{all_rows, of_suffered}
use Rattle.svc_instruction_profile.proofs.FirstReads.{each_is_read}
use Rattle.svc_instruction_profile.proofs.Totals.{suffered_all}
use Rattle.svc_instruction_profile.proofs.laws.legal_violations_add_up.Goals as goal

pub returns : goal.returns
returns c = λ img is config es legal.
    all_rows (λ k. k.suffered) expense.Suffered of_suffered (charges_of (addresses img config es) es)
    ∙ suffered_all (addresses img config es) es (history_asks img config es legal) (each_is_read img (given img is) config es legal)
