use Rattle.std.proofs.Common.{◌<◌, inl, inr, arith, subst, sym, length}
use Rattle.svc_explore.specs.Found.{are_seen}
use Rattle.svc_explore.specs.Search.{IsExploredAt}
use Rattle.svc_explore.proofs.Growing.{explored_at_stays, grows_trans, below_more}
use Rattle.svc_history.specs.Recorded.{Recorded}
use Rattle.svc_explore.proofs.Led.{explored_of, led_stays, sound_of, sound_there}
use Rattle.svc_explore.proofs.walk.Search.explore_key.Goals as goal

pub loop-unit-preserved : goal.loop-unit-preserved
loop-unit-preserved c =
    let old = c.loop-unit.self in
    let new = c.explore_unit.new.self in
    let there : Recorded = c.in_ok-there.there in
    let says = c.in_ok-explore_unit.ensures in
    let inv = c.loop-unit.invariant in
    let index : c.args.index < length old.keys.entries = omega (arith, c.requires.inside, inv.longer) in
    record {
      each = λ unit h. elim (below_more unit c.loop-unit.unit h) [
        | inl low ↦ explored_at_stays c.args.image.now c.args.config c.args.most old.keys.entries new.keys.entries (are_seen old.found.items) (are_seen new.found.items) says.keys says.found
            c.args.index unit index (inv.each unit low)
        | inr is ↦ subst (IsExploredAt c.args.image.now c.args.config c.args.most new.keys.entries (are_seen new.found.items) c.args.index) (sym is)
            (explored_of c.args.image.now c.args.config c.args.most there c.in_ok-there.ensures.image c.in_ok-there.ensures.config new.keys.entries (are_seen new.found.items) c.args.index _
            (says.explored c.if-not-branch.false))
      ];
      keys = grows_trans c.args.self.now.keys.entries old.keys.entries new.keys.entries inv.keys says.keys;
      longer = omega (arith, inv.longer, says.longer);
      found = grows_trans (are_seen c.args.self.now.found.items) (are_seen old.found.items) (are_seen new.found.items) inv.found says.found;
      moves = omega (arith, inv.moves, says.moves);
      sound = sound_of c.args.image.now c.args.config c.args.most there c.in_ok-there.ensures.image c.in_ok-there.ensures.config new says.sound;
    }

pub explore_unit-requires-clause-led : goal.explore_unit-requires-clause-led
explore_unit-requires-clause-led c =
    let old = c.loop-unit.self in
    led_stays c.args.image.now c.args.config c.args.most c.args.self.now.keys.entries old.keys.entries (are_seen old.found.items) c.args.index c.in_ok-there.there
    c.loop-unit.invariant.keys c.requires.inside c.in_ok-there.ensures.led

pub explore_unit-requires-clause-sound : goal.explore_unit-requires-clause-sound
explore_unit-requires-clause-sound c =
    sound_there c.args.image.now c.args.config c.args.most c.in_ok-there.there c.in_ok-there.ensures.image c.in_ok-there.ensures.config c.loop-unit.self c.loop-unit.invariant.sound

pub returns-clause-explored : goal.returns-clause-explored
returns-clause-explored c = λ ok unit h. c.loop-unit.invariant.each unit (omega (arith, h, c.loop-unit-test.false))
