-- The records of scripts are short, so a text of them is what is read of it.
use Rattle.std.proofs.Common.{◌≤◌, ℕ, List, Option, Some, None, refl, arith, length, Result, Ok, Err}
use Rattle.std.specs.Prelude.{IfOk, IfSome, Vec}
use Rattle.std.specs.List.{AllByRecursion}
use Rattle.std.specs.declared.alloc.Global.{Global}
use Rattle.std.proofs.lemmas.Bool.{leb-true, ltb-true}
use Rattle.svc_record_limit.specs.Limit.{most_bytes}
use Rattle.svc_report.specs.Records.{IsRead, IsText}
use Rattle.svc_report.specs.declared.error.ReportError.{ReportError}
use Rattle.svc_report.proofs.Short.{all_short, decimal_length, number_length}
use Rattle.svc_report.proofs.Whole.{IsShort, weight, whole_text}
use Rattle.svc_script.specs.Script.{HasStepRow, arg_of, script_header, script_records, step_columns, word_of, word_text}
use Rattle.svc_script.specs.declared.script.Step.{Step}
use Rattle.svc_script.specs.declared.script.StepWord.{StepWord}
use Rattle.svc_script.specs.declared.script.StepWord.TheVariants as word

word_length : (w : StepWord) → length (word_text w) ≤ 10
word_length word.Assign = leb-true _ _ refl
word_length word.Submit = leb-true _ _ refl
word_length word.Replace = leb-true _ _ refl
word_length word.Cancel = leb-true _ _ refl
word_length word.Commit = leb-true _ _ refl
word_length word.Take = leb-true _ _ refl
word_length word.Give = leb-true _ _ refl

pub short_step : (s : Step) → HasStepRow s → IsShort (step_columns s)
unfolding step_columns
short_step s row =
    let unit = decimal_length s.unit.0 (omega (arith, row.unit)) in
    omega (arith, word_length (word_of s.kind), unit, number_length (arg_of s.kind) row.arg)

-- a script that is read is read whole
pub whole_script : (known : Option (List ℕ)) (r : Result (Vec Step Global) ReportError) → IfOk r (λ v. AllByRecursion HasStepRow v.items × IfSome known (λ text. IsRead text (script_records v.items)))
    → IfOk r (λ v. AllByRecursion HasStepRow v.items × IfSome known (λ text. IsText text (script_records v.items)))
whole_script known (Err e) ok = tt
whole_script None (Ok v) ok = (ok.0, tt)
whole_script (Some text) (Ok v) ok =
    (ok.0, whole_text text (script_records v.items) (ltb-true (weight script_header) most_bytes refl, all_short step_columns HasStepRow short_step v.items ok.0) ok.1)
