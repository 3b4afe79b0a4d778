use Rattle.std.proofs.Common.{◌∙◌}
use Rattle.svc_report.proofs.PlainLines.{row_of_entry}
use Rattle.svc_report.specs.Trace.{columns}
use Rattle.svc_report.proofs.trace.write_row.Goals as goal

pub returns-clause-ok : goal.returns-clause-ok
unfolding columns
returns-clause-ok g c =
    let e = row_of_entry c.args.entry.now c.unit_text.ensures.small c.number_text.ensures.small c.small_text.ensures.small c.address_text.ensures.small c.number_text-2.ensures.small
    c.unit_text-2.ensures.small c.number_text-3.ensures.small c.number_text-4.ensures.small in
    rw (
      c.as_bytes.ensures.value ∙ c.text.ensures,
      c.as_bytes-2.ensures.value ∙ c.unit_text.ensures.text,
      c.as_bytes-3.ensures.value ∙ c.number_text.ensures.text,
      c.as_bytes-4.ensures.value ∙ c.small_text.ensures.text,
      c.as_bytes-5.ensures.value ∙ c.text_or_none.ensures,
      c.as_bytes-6.ensures.value ∙ c.text-2.ensures,
      c.as_bytes-7.ensures.value ∙ c.address_text.ensures.text,
      c.as_bytes-8.ensures.value ∙ c.number_text-2.ensures.text,
      c.as_bytes-9.ensures.value ∙ c.text_or_none-2.ensures,
      c.as_bytes-10.ensures.value ∙ c.unit_text-2.ensures.text,
      c.as_bytes-11.ensures.value ∙ c.text_or_none-3.ensures,
      c.as_bytes-12.ensures.value ∙ c.number_text-3.ensures.text,
      c.as_bytes-13.ensures.value ∙ c.number_text-4.ensures.text,
      e,
    ) at c.write_line.ensures.ok
