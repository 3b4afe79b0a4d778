use Rattle.std.proofs.Common.{◌∙◌, ap, inr, true}
use Rattle.csv.specs.Reading.{builder_config, builder_names_headers, builder_trim, with_flexible}
use Rattle.csv.specs.declared.reader.ReaderBuilder.{ReaderBuilder}
use Rattle.svc_report.proofs.records.open.Goals as goal

pub returns-clause-open : goal.returns-clause-open
returns-clause-open g c =
    let built = c.flexible.ensures ∙ ap (λ (b : ReaderBuilder). with_flexible b true) c.has_headers.ensures in (
      c.from_reader.ensures.trim ∙ (ap builder_trim built ∙ c.new.ensures.trim),
      inr (inr (c.from_reader.ensures.has_headers ∙ ap builder_names_headers built, c.from_reader.ensures.headers)),
      c.from_reader.ensures.config ∙ (ap builder_config built ∙ c.new.ensures.config),
    )

pub returns-clause-state : goal.returns-clause-state
returns-clause-state g c = c.from_reader.ensures.state

pub returns-clause-source : goal.returns-clause-source
returns-clause-source g c = c.from_reader.ensures.source ∙ c.new-2.ensures
