use Rattle.std.proofs.Common.{rules, ◌∙◌, sym, ap, Option}
use Rattle.svc_image.specs.declared.error.ImageError.{ImageError}
use Rattle.svc_image.specs.Reading.{unless_fault}
use Rattle.svc_image.proofs.Checks.{start-Start, start-None, header-start}
use Rattle.svc_image.proofs.check.check_start.Goals as goal

pub returns-then-not-has_entry : goal.returns-then-not-has_entry
returns-then-not-has_entry c =
    let start = header-start c.args.bytes.now c.args.header c.requires.header in
    sym (ap (λ (o : Option ImageError). unless_fault o tt) (start-Start c.args.bytes.now (sym start ∙ sym c.has_entry.ensures ∙ search rules)))

pub returns : goal.returns
returns c =
    let start = header-start c.args.bytes.now c.args.header c.requires.header in
    sym (ap (λ (o : Option ImageError). unless_fault o tt) (start-None c.args.bytes.now (sym start ∙ sym c.has_entry.ensures ∙ search rules)))
