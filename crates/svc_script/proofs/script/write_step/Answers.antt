use Rattle.std.proofs.Common.{◌∙◌}
use Rattle.svc_script.proofs.PlainSteps.{row_of_step}
use Rattle.svc_script.specs.Script.{step_columns}
use Rattle.svc_script.proofs.script.write_step.Goals as goal

pub returns-clause-ok : goal.returns-clause-ok
unfolding step_columns
returns-clause-ok g c =
    let e = row_of_step c.args.step.now c.unit_text.ensures.small (rw c.arg.ensures at c.number_text.ensures.small) in
    rw (
      c.as_bytes.ensures.value ∙ c.text.ensures,
      c.as_bytes-2.ensures.value ∙ c.unit_text.ensures.text,
      c.as_bytes-3.ensures.value ∙ c.number_text.ensures.text,
      c.word.ensures,
      c.arg.ensures,
      e,
    ) at c.write_line.ensures.ok
