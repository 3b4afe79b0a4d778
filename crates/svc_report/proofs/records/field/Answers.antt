use Rattle.std.proofs.Common.{refl, sym}
use Rattle.svc_report.proofs.Rows.{field_or}
use Rattle.csv.specs.Records.{fields_of}
use Rattle.svc_report.proofs.records.field.Goals as goal

pub returns-in-Some : goal.returns-in-Some
returns-in-Some c = rw (field_or (fields_of c.args.row.now) c.args.place, sym c.in-Some.ensures.value) refl

pub returns-in-None : goal.returns-in-None
returns-in-None c = rw (field_or (fields_of c.args.row.now) c.args.place, sym c.in-None.ensures.value) refl
