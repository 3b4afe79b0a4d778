use Rattle.std.proofs.Common.{◌∙◌, ◌<◌, ℕ, List, Some, ap, sym, subst, length, remove}
use Rattle.svc_machine_laws.specs.Guide.{Guide, guide_committed, with_successor}
use Rattle.svc_sequencer.specs.Tables.{AreIndices}
use Rattle.svc_sequencer.proofs.Placed.{places_after}
use Rattle.svc_sequencer.proofs.Guided.{as_many, committed}
use Rattle.svc_sequencer.proofs.sequencer.Sequencer.commit.Goals as goal

pub invariant_of-self : goal.invariant_of-self
invariant_of-self c =
    let xs = c.self.inside.entries.items in
    let table = c.remember.ensures ∙ ap (λ ys. with_successor ys (Some c.remove-head.result) c.next-self-inside.result c.self.inside.successors.items) c.deref.ensures.value in
    record {
      rising = c.self.invariant.rising;
      as_many = ap length table ∙ as_many xs (Some c.remove-head.result) c.next-self-inside.result c.self.inside.successors.items c.self.invariant.as_many;
      placed = subst (λ (ps : List ℕ). AreIndices xs c.remove-head.new.self.items ps) (sym c.remove-index.ensures.items)
          (subst (λ (es : List ℕ). AreIndices xs es (remove c.self.inside.indices.items 0)) (sym c.remove-head.ensures.items)
          (places_after xs c.self.inside.active.items c.self.inside.indices.items c.self.invariant.placed));
    }

pub returns : goal.returns
returns c =
    let table = c.remember.ensures ∙ ap (λ ys. with_successor ys (Some c.remove-head.result) c.next-self-inside.result c.self.inside.successors.items) c.deref.ensures.value in
    let some = subst (λ (g : Guide). 0 < length g.active) (sym c.self.view_is) c.requires in
    let before : Guide =
    record { entries = c.self.inside.entries.items; due = c.self.inside.due; successors = c.self.inside.successors.items; active = c.self.inside.active.items } in
    committed before c.args.end c.next-self-inside.result c.remove-head.result c.remember.new.successors.items c.remove-head.new.self.items
    c.next-self-inside.ensures c.remove-head.ensures.value some table c.remove-head.ensures.items
    ∙ ap (guide_committed c.args.end) c.self.view_is
