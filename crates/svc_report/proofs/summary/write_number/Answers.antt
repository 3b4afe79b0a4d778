use Rattle.std.proofs.Common.{◌∙◌, [], arith}
use Rattle.std.specs.Fmt.{decimal}
use Rattle.svc_report.proofs.PlainLines.{plain_decimal, row_is_line}
use Rattle.svc_report.proofs.summary.write_number.Goals as goal

pub returns-clause-ok : goal.returns-clause-ok
returns-clause-ok g c =
    let e = row_is_line c.args.name.now (decimal c.args.number) [] c.requires (plain_decimal c.args.number (omega (arith, c.ranges.number)), tt) in
    rw (c.as_bytes.ensures.value, c.as_bytes-2.ensures.value ∙ c.format.ensures.text, e) at c.write_line.ensures.ok
