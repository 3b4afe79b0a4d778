use Rattle.std.proofs.Common.{arith, ◌≡◌, subst, suc, ◌+◌, length}
use Rattle.svc_retire.proofs.Dropping.{IsDropped, taken_few, drop_begins, drop_steps, drop_ends}
use Rattle.svc_retire.proofs.purging.drop_versions.Goals as goal

pub loop-held-init : goal.loop-held-init
loop-held-init c = drop_begins c.args.caches.now c.args.committed.now c.args.keep c.args.word.0 c.args.probes.now

pub drop_version-requires-clause-room : goal.drop_version-requires-clause-room
drop_version-requires-clause-room c =
    let few = taken_few c.args.caches.now c.args.word.0 c.args.committed.now c.args.keep c.loop-held.held-index c.requires.listed c.loop-held-test.true in
    let searches = c.loop-held.invariant.counted.searches in
    let places = c.loop-held.invariant.counted.places in
    let room = c.requires.room.searches in
    let wide = c.requires.room.places in
    let same = c.loop-held.invariant.sizes.count in
    record {
      searches = omega (arith, few, searches, room);
      places = omega (arith, few, places, wide);
      ways = λ u h. let e = c.loop-held.invariant.sizes.ways u in let low = c.requires.room.ways u (omega (arith, h, same)) in omega (arith, e, low);
    }

pub loop-held-preserved : goal.loop-held-preserved
loop-held-preserved c =
    subst (λ n. IsDropped c.args.caches.now c.drop_version.new.caches c.args.committed.now c.args.keep c.args.word.0 n c.args.probes.now c.drop_version.new.probes) (let e : suc c.loop-held.held-index ≡ c.loop-held.held-index + 1 = omega arith in e)
    (drop_steps c.args.caches.now c.loop-held.caches c.drop_version.new.caches c.args.committed.now c.args.keep c.args.word.0 c.loop-held.held-index c.args.probes.now c.loop-held.probes c.drop_version.new.probes
    c.requires.listed c.loop-held-test.true c.loop-held.invariant c.drop_version.ensures.lines c.drop_version.ensures.sizes c.drop_version.ensures.counted)

pub returns-clause-lines : goal.returns-clause-lines
returns-clause-lines c =
    let all : c.loop-held.held-index ≡ length c.args.committed.now = omega arith in
    (drop_ends c.args.caches.now c.loop-held.caches c.args.committed.now c.args.keep c.args.word.0 c.args.probes.now c.loop-held.probes c.requires.listed
    (subst (λ n. IsDropped c.args.caches.now c.loop-held.caches c.args.committed.now c.args.keep c.args.word.0 n c.args.probes.now c.loop-held.probes) all c.loop-held.invariant)).0

pub returns-clause-counted : goal.returns-clause-counted
returns-clause-counted c =
    let all : c.loop-held.held-index ≡ length c.args.committed.now = omega arith in
    (drop_ends c.args.caches.now c.loop-held.caches c.args.committed.now c.args.keep c.args.word.0 c.args.probes.now c.loop-held.probes c.requires.listed
    (subst (λ n. IsDropped c.args.caches.now c.loop-held.caches c.args.committed.now c.args.keep c.args.word.0 n c.args.probes.now c.loop-held.probes) all c.loop-held.invariant)).1
