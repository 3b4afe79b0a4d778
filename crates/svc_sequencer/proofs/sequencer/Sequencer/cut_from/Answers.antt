use Rattle.std.proofs.Common.{ℕ, List, sym, subst, take}
use Rattle.svc_sequencer.specs.Tables.{AreIndices}
use Rattle.svc_sequencer.proofs.Placed.{places_of_first}
use Rattle.svc_sequencer.proofs.sequencer.Sequencer.cut_from.Goals as goal

pub invariant_of-self : goal.invariant_of-self
invariant_of-self c =
    let xs = c.self.inside.entries.items in
    record {
      rising = c.self.invariant.rising;
      as_many = c.self.invariant.as_many;
      placed = subst (λ (ps : List ℕ). AreIndices xs c.truncate.new.self.items ps) (sym c.truncate-2.ensures.items)
          (subst (λ (es : List ℕ). AreIndices xs es (take c.args.place c.self.inside.indices.items)) (sym c.truncate.ensures.items)
          (places_of_first c.args.place xs c.self.inside.active.items c.self.inside.indices.items c.self.invariant.placed));
    }
