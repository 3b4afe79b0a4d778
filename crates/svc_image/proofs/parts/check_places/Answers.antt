use Rattle.std.proofs.Common.{◌<◌, length, refl, arith, add-one}
use Rattle.std.proofs.lemmas.Result.{err_from_is_err_and}
use Rattle.svc_image.specs.Format.{each_of, first_of}
use Rattle.svc_image.specs.Parts.{place_checks}
use Rattle.svc_image.proofs.Checks.{checked-Err, checked-Ok, each-first, each-more}
use Rattle.svc_image.proofs.parts.check_places.Goals as goal

pub loop-index-init : goal.loop-index-init
unfolding each_of
loop-index-init c = refl

pub returns-in_err-check_place : goal.returns-in_err-check_place
returns-in_err-check_place c =
    let p = err_from_is_err_and c.from_residual.result c.from_residual.ensures.1 in
    let checks = place_checks c.args.entries.now c.args.words in
    let here = checked-Err (first_of (checks c.loop-index.index)) tt _ c.in_err-check_place.ensures in
    let low : c.loop-index.index < length c.args.entries.now = omega arith in
    let all = each-first checks (length c.args.entries.now) c.loop-index.index _ low c.loop-index.invariant here in
    rw (p.1, p.2, all) refl

pub loop-index-preserved : goal.loop-index-preserved
loop-index-preserved c =
    let checks = place_checks c.args.entries.now c.args.words in
    let here = checked-Ok (first_of (checks c.loop-index.index)) tt _ c.in_ok-check_place.ensures in
    rw add-one (each-more checks c.loop-index.index c.loop-index.invariant here.0)
