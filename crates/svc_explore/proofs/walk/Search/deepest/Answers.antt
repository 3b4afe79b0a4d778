use Rattle.std.proofs.Common.{ℕ, ◌≡◌, ◌⊎◌, ◌<◌, ◌∙◌, List, Some, arith, inr, length, slice_get, subst, sym}
use Rattle.svc_explore.specs.Search.{Place, path_at}
use Rattle.svc_explore.proofs.Counting.{bound_more, found_here, longest_of}
use Rattle.svc_explore.proofs.walk.Search.deepest.Goals as goal
use Rattle.svc_explore.proofs.walk.Search.deepest.Goals.{then-deepest-depth, else-deepest-depth}

pub loop-index-preserved : goal.loop-index-preserved
loop-index-preserved c =
    let es : List Place = c.args.self.now.keys.entries in
    let inv = c.loop-index.invariant in
    let inside : c.loop-index.index < length es = omega arith in
    elim c.if-deepest-depth.branch [
      | then-deepest-depth w ↦
          let f = found_here es c.loop-index.index c.loop-index.deepest c.depth-depth.result inv.bound inside c.depth-depth.ensures in
          record {
            bound = bound_more es c.loop-index.index c.loop-index.deepest c.depth-depth.result inv.bound inside c.depth-depth.ensures c.if-deepest-depth.deepest (omega arith) (omega arith);
            found = inr (f.0, f.1, f.2, f.3 ∙ sym w.deepest-is);
          }
      | else-deepest-depth w ↦ record {
        bound = bound_more es c.loop-index.index c.loop-index.deepest c.depth-depth.result inv.bound inside c.depth-depth.ensures c.if-deepest-depth.deepest (omega arith) (omega arith);
        found = subst (λ (n : ℕ). (n ≡ 0) ⊎ ((i : ℕ) × (e : Place) × (slice_get es i ≡ Some e) × (length (path_at e) ≡ n))) (sym w.deepest-is) inv.found;
      }
    ]

pub returns : goal.returns
returns c =
    let es : List Place = c.args.self.now.keys.entries in
    longest_of es c.loop-index.index c.loop-index.deepest (omega arith) c.requires.some c.loop-index.invariant.bound c.loop-index.invariant.found
