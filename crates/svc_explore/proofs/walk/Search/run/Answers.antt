use Rattle.std.proofs.Common.{◌≡◌, ◌<◌, ◌≤◌, arith, length, subst}
use Rattle.std.proofs.lemmas.Bool.{eqb-true}
use Rattle.svc_explore.specs.Found.{are_seen}
use Rattle.svc_explore.specs.Search.{IsPartlyClosed}
use Rattle.svc_explore.proofs.Counting.{few_moves, more_times, some_keys}
use Rattle.svc_explore.proofs.Growing.{closed_none, closed_more}
use Rattle.svc_explore.proofs.walk.Search.run.Goals as goal

pub loop-index-init : goal.loop-index-init
loop-index-init c = record {
  closed = closed_none c.args.image.now c.args.config c.args.most c.args.self.now.keys.entries (are_seen c.args.self.now.found.items) c.requires.opening;
  inside = omega arith;
  some = some_keys c.requires.opening.key c.args.self.now.keys.entries c.requires.opening.listed;
  moves = omega (arith, c.requires.unmoved);
  sound = c.requires.sound;
}

pub loop-index-preserved : goal.loop-index-preserved
loop-index-preserved c =
    let old = c.loop-index.self in
    let new = c.explore_key.new.self in
    let says = c.in_ok-explore_key.ensures in
    let inv = c.loop-index.invariant in
    let inside : c.loop-index.index < length old.keys.entries = omega (arith, inv.inside) in
    record {
      closed = closed_more c.args.image.now c.args.config c.args.most old.keys.entries new.keys.entries (are_seen old.found.items) (are_seen new.found.items) says.keys says.found c.loop-index.index inside inv.closed
          (says.explored c.if-not-branch.false);
      inside = omega (arith, inside, says.longer);
      some = omega (arith, inv.some, says.longer);
      moves = more_times c.loop-index.index c.args.config.units old.moves new.moves inv.moves says.moves;
      sound = says.sound;
    }

pub explore_key-requires-clause-few : goal.explore_key-requires-clause-few
explore_key-requires-clause-few c = few_moves c.loop-index.index c.args.config.units c.loop-index.self.moves c.loop-index.invariant.moves (omega arith) (omega arith)

pub returns-clause-closed : goal.returns-clause-closed
returns-clause-closed c = λ same.
    let keys = c.loop-index.self.keys.entries in
    let inside : c.loop-index.index ≤ length keys = c.loop-index.invariant.inside in
    let all : c.len-2.result ≡ c.args.limit = eqb-true c.len-2.result c.args.limit same in
    let is : c.loop-index.index ≡ length keys = omega (arith, all, inside, c.loop-index-test.false, c.len-2.ensures.len) in
    subst (IsPartlyClosed c.args.image.now c.args.config c.args.most keys (are_seen c.loop-index.self.found.items)) is c.loop-index.invariant.closed
