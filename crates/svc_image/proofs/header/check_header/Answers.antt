use Rattle.std.proofs.Common.{refl}
use Rattle.std.proofs.lemmas.Result.{err_from_is_err_and}
use Rattle.svc_image.specs.Format.{version_in, version_checks, count_checks, header_checks, first_of}
use Rattle.svc_image.proofs.Checks.{first_of-append-none, first_of-append-some, checked-Err, checked-Ok}
use Rattle.svc_image.proofs.header.check_header.Goals as goal

pub returns-in_err-version-clause-value : goal.returns-in_err-version-clause-value
unfolding header_checks
returns-in_err-version-clause-value c =
    let p = err_from_is_err_and c.from_residual.result c.from_residual.ensures.1 in
    let here = checked-Err (first_of (version_checks c.args.bytes.now)) (version_in c.args.bytes.now) _ c.in_err-version.ensures in
    rw (p.1, p.2, first_of-append-some (version_checks c.args.bytes.now) (count_checks c.args.bytes.now) _ here) refl

pub returns-clause-value : goal.returns-clause-value
unfolding header_checks
returns-clause-value c =
    let version = checked-Ok (first_of (version_checks c.args.bytes.now)) (version_in c.args.bytes.now) _ c.in_ok-version.ensures in
    rw (first_of-append-none (version_checks c.args.bytes.now) (count_checks c.args.bytes.now) version.0) c.check_counts.ensures.value
