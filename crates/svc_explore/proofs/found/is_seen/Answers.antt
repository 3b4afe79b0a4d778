use Rattle.std.proofs.Common.{◌<◌, arith, length}
use Rattle.svc_explore.proofs.Founding.{seen_read, not_more}
use Rattle.svc_explore.proofs.found.is_seen.Goals as goal

pub returns-then-is_same-clause-seen : goal.returns-then-is_same-clause-seen
returns-then-is_same-clause-seen c = λ _.
    let inside : c.loop-seen.seen-index < length c.args.found.now = omega (arith, c.loop-seen-test.true) in
    (c.loop-seen.seen-index, seen_read c.args.found.now c.loop-seen.seen-index c.seen-item.result c.seen-item.result c.args.what inside c.seen-item.is (c.is_same.ensures.0 c.if-is_same.true))

pub loop-seen-preserved : goal.loop-seen-preserved
loop-seen-preserved c =
    let inside : c.loop-seen.seen-index < length c.args.found.now = omega (arith, c.loop-seen-test.true) in
    not_more c.args.found.now c.loop-seen.seen-index c.seen-item.result c.args.what inside c.seen-item.is c.loop-seen.invariant c.is_same.result c.is_same.ensures.1 c.if-is_same.false
