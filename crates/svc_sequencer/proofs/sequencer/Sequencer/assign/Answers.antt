use Rattle.std.proofs.Common.{◌<◌, ◌++◌, ◌∷◌, ℕ, List, [], ap, sym, subst, length, arith}
use Rattle.svc_machine_laws.specs.Guide.{Guide}
use Rattle.svc_sequencer.specs.Tables.{AreIndices, IsIndex}
use Rattle.svc_sequencer.proofs.Placed.{as_long, index_more}
use Rattle.svc_sequencer.proofs.sequencer.Sequencer.assign.Goals as goal

pub push-requires : goal.push-requires
push-requires c =
    let room : length c.args.self.now.active < 16 = c.requires.room in
    let view = ap (λ (g : Guide). length g.active) c.self.view_is in
    let long = as_long c.self.inside.entries.items c.self.inside.active.items c.self.inside.indices.items c.self.invariant.placed in
    let few : length c.self.inside.indices.items < 16 = omega (arith, room, view, long) in
    (omega arith, few)

pub invariant_of-self : goal.invariant_of-self
invariant_of-self c =
    let xs = c.self.inside.entries.items in
    let entry = c.if-is_empty.entry in
    let index = c.index_of.result in
    let at : IsIndex xs entry index = subst (λ (ys : List ℕ). IsIndex ys entry index) c.deref.ensures.value c.index_of.ensures in
    record {
      rising = c.self.invariant.rising;
      as_many = c.self.invariant.as_many;
      placed = subst (λ (ps : List ℕ). AreIndices xs c.push-2.new.self.items ps) (sym c.push.ensures.items)
          (subst (λ (es : List ℕ). AreIndices xs es (c.self.inside.indices.items ++ index ∷ [])) (sym c.push-2.ensures.items)
          (index_more xs c.self.inside.active.items c.self.inside.indices.items entry index c.self.invariant.placed at));
    }
