use Rattle.std.proofs.Common.{◌<◌, arith, length, refl}
use Rattle.std.proofs.lemmas.Option.{slice_get_read}
use Rattle.svc_explore.proofs.NoMatch.{match_none}
use Rattle.svc_explore.proofs.finding.find.Goals as goal

pub loop-seen-preserved : goal.loop-seen-preserved
loop-seen-preserved c =
    let inside : c.loop-seen.seen-index < length c.args.found.now = omega (arith, c.loop-seen-test.true) in
    match_none c.args.sought c.args.found.now c.loop-seen.seen-index c.seen-item.result inside c.seen-item.is c.loop-seen.invariant c.matches.result c.matches.ensures.1 c.if-matches.false

pub returns-then-matches-clause-first : goal.returns-then-matches-clause-first
returns-then-matches-clause-first c =
    let inside : c.loop-seen.seen-index < length c.args.found.now = omega (arith, c.loop-seen-test.true) in
    record {
      index = c.loop-seen.seen-index;
      there = slice_get_read c.args.found.now (length c.args.found.now) c.loop-seen.seen-index c.seen-item.result refl inside c.seen-item.is;
      before = c.loop-seen.invariant;
    }
