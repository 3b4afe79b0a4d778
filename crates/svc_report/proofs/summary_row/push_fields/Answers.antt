use Rattle.svc_report.proofs.summary_row.push_fields.Goals as goal

pub returns : goal.returns
returns c =
    rw (
      c.in_ok-push_number-2.ensures,
      c.in_ok-push-2.ensures,
      c.in_ok-push_number.ensures,
      c.in_ok-push.ensures,
      c.requires,
      c.ending_word.ensures.word,
      c.ending_number.ensures,
      c.numbers.ensures,
    ) at c.push_numbers.ensures
