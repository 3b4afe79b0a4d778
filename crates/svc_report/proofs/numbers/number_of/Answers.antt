use Rattle.std.proofs.Common.{◌≡◌, ◌<◌, ◌^◌, ◌∙◌, false, sym, ap, subst, arith}
use Rattle.std.specs.Prelude.{decimal}
use Rattle.std.specs.Result.{result_ok}
use Rattle.std.proofs.lemmas.Fmt.{IsAscii-decimal}
use Rattle.std.proofs.lemmas.Str.{IsUtf8-from_ascii}
use Rattle.svc_report.specs.Fields.{Reads, is_padded}
use Rattle.svc_report.proofs.Numerals.{padded_is_none, reads_number}
use Rattle.svc_report.proofs.numbers.number_of.Goals as goal

pub returns-then-is_padded : goal.returns-then-is_padded
returns-then-is_padded c n small same = padded_is_none c.args.field.now n (sym c.is_padded.ensures ∙ c.if-is_padded.true) small same

pub returns-in_default : goal.returns-in_default
returns-in_default c n small same = c.in_default.ensures.cases.0 (rw same (IsUtf8-from_ascii _ (IsAscii-decimal n (omega arith))))

pub returns : goal.returns
returns c =
    let same : c.in-Ok.text.now ≡ c.args.field.now = c.in-Ok.ensures.cases.0 in
    let whole : is_padded c.in-Ok.text.now ≡ false = ap is_padded same ∙ sym c.is_padded.ensures ∙ c.if-is_padded.false in
    let read = reads_number c.in-Ok.text.now c.parse.result whole c.parse.ensures.value.0 in
    rw c.ok.ensures.value (subst (λ text. Reads (λ n. n < 2 ^ 32) decimal text (result_ok c.parse.result)) same read)
