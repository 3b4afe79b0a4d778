use Rattle.std.proofs.Common.{refl, arith, add-one}
use Rattle.std.proofs.lemmas.Result.{err_from_is_err_and}
use Rattle.svc_image.specs.Format.{each_of, entry_checks, first_of}
use Rattle.svc_image.proofs.Checks.{checked-Err, checked-Ok, each-first, each-more}
use Rattle.svc_image.proofs.check.check_entries.Goals as goal

pub loop-index-init : goal.loop-index-init
unfolding each_of
loop-index-init c = record { sound = refl; whole = c.requires.whole }

pub returns-in_err-check_entry-clause-value : goal.returns-in_err-check_entry-clause-value
returns-in_err-check_entry-clause-value c =
    let p = err_from_is_err_and c.from_residual.result c.from_residual.ensures.1 in
    let here = checked-Err (first_of (entry_checks c.args.bytes.now c.loop-index.index)) tt _ c.in_err-check_entry.ensures.value in
    let all = each-first (entry_checks c.args.bytes.now) c.args.entries c.loop-index.index _ c.loop-index-test.true c.loop-index.invariant.sound here in
    rw (p.1, p.2, all) refl

pub loop-index-preserved : goal.loop-index-preserved
loop-index-preserved c =
    let here = checked-Ok (first_of (entry_checks c.args.bytes.now c.loop-index.index)) tt _ c.in_ok-check_entry.ensures.value in
    record {
      sound = rw add-one (each-more (entry_checks c.args.bytes.now) c.loop-index.index c.loop-index.invariant.sound here.0);
      whole = omega (arith, c.in_ok-check_entry.ensures.whole);
    }
