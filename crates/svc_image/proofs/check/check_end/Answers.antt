use Rattle.std.proofs.Common.{sym, ap, arith, Option}
use Rattle.svc_image.specs.declared.error.ImageError.{ImageError}
use Rattle.svc_image.specs.Reading.{unless_fault}
use Rattle.svc_image.proofs.Checks.{end-Short, end-Trailing, end-None, header-end}
use Rattle.svc_image.proofs.check.check_end.Goals as goal

pub returns-then-bytes-size-clause-value : goal.returns-then-bytes-size-clause-value
returns-then-bytes-size-clause-value c =
    let place = header-end c.args.bytes.now c.args.header c.requires.header in
    sym (ap (λ (o : Option ImageError). unless_fault o tt) (end-Short c.args.bytes.now (omega (arith, place))))

pub returns-then-size-bytes-clause-value : goal.returns-then-size-bytes-clause-value
returns-then-size-bytes-clause-value c =
    let place = header-end c.args.bytes.now c.args.header c.requires.header in
    sym (ap (λ (o : Option ImageError). unless_fault o tt) (end-Trailing c.args.bytes.now (omega (arith, place))))

pub returns-clause-value : goal.returns-clause-value
returns-clause-value c =
    let place = header-end c.args.bytes.now c.args.header c.requires.header in
    sym (ap (λ (o : Option ImageError). unless_fault o tt) (end-None c.args.bytes.now (omega (arith, place))))
