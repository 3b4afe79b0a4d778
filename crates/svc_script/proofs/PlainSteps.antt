-- No column of a step calls for quotes.
use Rattle.std.proofs.Common.{◌≡◌, ◌<◌, ◌^◌, refl, arith, lit≤}
use Rattle.std.specs.Prelude.{IfSome}
use Rattle.csv.specs.Writing.{default_writer, row_text}
use Rattle.svc_report.specs.Fields.{unit_text}
use Rattle.svc_report.specs.Lines.{IsPlain}
use Rattle.svc_report.proofs.PlainLines.{below, plain_decimal, plain_optional, row_is_line}
use Rattle.svc_script.specs.Script.{arg_of, step_columns, step_row, word_of, word_text}
use Rattle.svc_script.specs.declared.script.Step.{Step}
use Rattle.svc_script.specs.declared.script.StepWord.{StepWord}
use Rattle.svc_script.specs.declared.script.StepWord.TheVariants as word

plain_word : (w : StepWord) → IsPlain (word_text w)
plain_word word.Assign = refl
plain_word word.Submit = refl
plain_word word.Replace = refl
plain_word word.Cancel = refl
plain_word word.Commit = refl
plain_word word.Take = refl
plain_word word.Give = refl

pub row_of_step : (s : Step) → s.unit.0 < 2 ^ 8 → IfSome (arg_of s.kind) (λ n. n < 2 ^ 32) → row_text default_writer (step_columns s) ≡ step_row s
unfolding step_columns
row_of_step s unit arg =
    row_is_line (word_text (word_of s.kind)) (unit_text s.unit) _ (plain_word (word_of s.kind))
    (plain_decimal s.unit.0 (omega arith), (plain_optional (arg_of s.kind) (below (2 ^ 32) (2 ^ 64) (lit≤ tt) (arg_of s.kind) arg), tt))
