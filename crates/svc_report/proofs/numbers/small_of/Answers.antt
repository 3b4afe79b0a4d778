use Rattle.std.proofs.Common.{◌≡◌, ◌∙◌, sym, arith}
use Rattle.std.proofs.lemmas.Fmt.{decimal_injective}
use Rattle.svc_report.proofs.numbers.small_of.Goals as goal

pub returns-else-number-most : goal.returns-else-number-most
returns-else-number-most c x small e =
    let read = c.in_ok-number.ensures in
    let same : c.in_ok-number.number ≡ x = decimal_injective _ x (omega (arith, read.0)) (omega arith) (sym read.1 ∙ e) in
    omega arith
