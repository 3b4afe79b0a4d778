use Rattle.std.proofs.Common.{List, inl, inr, ℕ, ◌≡◌, ◌≤◌, ◌*◌, arith, length, subst, sym}
use Rattle.svc_base.specs.declared.config.Config.{Config}
use Rattle.svc_image.specs.Image.{Image}
use Rattle.svc_explore.specs.Counts.{IsMet}
use Rattle.svc_explore.specs.Found.{are_seen}
use Rattle.svc_explore.specs.Search.{Place, are_keys}
use Rattle.svc_explore.proofs.Counting.{deep_enough}
use Rattle.svc_explore.proofs.Growing.{closed_shows, closed_whole}
use Rattle.svc_explore.proofs.Permuting.{all_get, closed_permuted, nothing_else_permuted, witnessed_permuted}
use Rattle.svc_explore.proofs.walk.explore.Goals as goal

pub run-requires-clause-sound : goal.run-requires-clause-sound
run-requires-clause-sound c = c.in_ok-search.ensures.sound c.args.burst

pub returns-clause-whole : goal.returns-clause-whole
returns-clause-whole c = λ whole.
    let img : Image = c.args.image.now in
    nothing_else_permuted img c.args.config c.args.burst c.run.new.self.found.items c.put_in_order.new.found.items c.put_in_order.ensures.same
    (closed_shows img c.args.config c.args.burst c.start-start.ensures.sound c.run.new.self.keys.entries (are_seen c.run.new.self.found.items)
    (closed_whole img c.args.config c.args.burst c.run.new.self.keys.entries (are_seen c.run.new.self.found.items)
    (all_get (IsMet img c.args.config c.args.burst) c.run.new.self.keys.entries c.in_ok-whole.ensures.sound.met.each) (c.in_ok-whole.ensures.closed whole)))

pub returns-clause-witnessed : goal.returns-clause-witnessed
returns-clause-witnessed c =
    witnessed_permuted c.args.image.now c.args.config c.args.burst c.run.new.self.found.items c.put_in_order.new.found.items c.put_in_order.ensures.same
    c.in_ok-whole.ensures.sound.witnessed

pub returns-clause-told : goal.returns-clause-told
returns-clause-told c =
    let img : Image = c.args.image.now in
    let config : Config = c.args.config in
    let places : List Place = c.run.new.self.keys.entries in
    let says = c.in_ok-whole.ensures in
    let states : c.len.result ≡ length places = c.len.ensures.len in
    record {
      places = places;
      met = says.sound.met;
      closed = λ whole.
          closed_permuted img config c.args.burst c.run.new.self.found.items c.put_in_order.new.found.items c.put_in_order.ensures.same (are_keys places)
          (closed_whole img config c.args.burst places (are_seen c.run.new.self.found.items) (all_get (IsMet img config c.args.burst) places says.sound.met.each) (says.closed whole));
      states = states;
      deepest = c.deepest-deepest.ensures;
      least_moves = let m = says.sound.moved in omega (arith, m, states);
      most_moves = subst (λ (n : ℕ). c.run.new.self.moves ≤ n * config.units) (sym states) says.moves;
    }

pub returns-clause-limits : goal.returns-clause-limits
returns-clause-limits c =
    let says = c.in_ok-whole.ensures in
    let states : c.len.result ≡ length c.run.new.self.keys.entries = c.len.ensures.len in
    record {
      within = λ whole. let h = says.within whole in omega (arith, h, states);
      met = λ part. elim (says.stopped part) [
        | inl more ↦ inl (omega (arith, more, states))
        | inr full ↦ inr (deep_enough c.args.config c.run.new.self.keys.entries c.deepest-deepest.result c.deepest-deepest.ensures full)
      ];
    }
