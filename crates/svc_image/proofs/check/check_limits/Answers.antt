use Rattle.std.proofs.Common.{◌≡◌, ℕ, List, ap, refl, ◌+◌, ◌*◌, ◌<◌, arith, add-one}
use Rattle.std.proofs.lemmas.Result.{err_from_is_err_and}
use Rattle.svc_image.specs.declared.header.Header.{Header}
use Rattle.svc_image.specs.Version.{listed_count}
use Rattle.svc_image.specs.Format.{each_of, limit_checks, limits_place, listed_in, first_of}
use Rattle.svc_image.specs.Reading.{header_in}
use Rattle.svc_image.proofs.Checks.{checked-Err, checked-Ok, each-first, each-more}
use Rattle.svc_image.proofs.check.check_limits.Goals as goal

-- by the header
listed_is : (bytes : List ℕ) (h : Header) → h ≡ header_in bytes → listed_count h.version h.entries ≡ listed_in bytes
listed_is bytes h same = ap (λ (x : Header). listed_count x.version x.entries) same

place_is : (bytes : List ℕ) (h : Header) → h ≡ header_in bytes → 148 + 4 * h.entries ≡ limits_place bytes
place_is bytes h same = ap (λ (x : Header). 148 + 4 * x.entries) same

pub loop-index-init : goal.loop-index-init
unfolding each_of
loop-index-init c = record { sound = refl; whole = omega (arith, c.requires.whole) }

pub check_limit-requires-clause-place : goal.check_limit-requires-clause-place
check_limit-requires-clause-place c = place_is c.args.bytes.now c.args.header c.requires.header

pub returns-in_err-check_limit-clause-value : goal.returns-in_err-check_limit-clause-value
returns-in_err-check_limit-clause-value c =
    let p = err_from_is_err_and c.from_residual.result c.from_residual.ensures.1 in
    let here = checked-Err (first_of (limit_checks c.args.bytes.now c.loop-index.index)) tt _ c.in_err-check_limit.ensures.value in
    let low : c.loop-index.index < listed_in c.args.bytes.now = omega (arith, c.loop-index-test.true, c.limit_count-index-end.ensures.value, listed_is c.args.bytes.now c.args.header c.requires.header) in
    let all = each-first (limit_checks c.args.bytes.now) (listed_in c.args.bytes.now) c.loop-index.index _ low c.loop-index.invariant.sound here in
    rw (p.1, p.2, all) refl

pub loop-index-preserved : goal.loop-index-preserved
loop-index-preserved c =
    let here = checked-Ok (first_of (limit_checks c.args.bytes.now c.loop-index.index)) tt _ c.in_ok-check_limit.ensures.value in
    record {
      sound = rw add-one (each-more (limit_checks c.args.bytes.now) c.loop-index.index c.loop-index.invariant.sound here.0);
      whole = omega (arith, c.in_ok-check_limit.ensures.whole);
    }
