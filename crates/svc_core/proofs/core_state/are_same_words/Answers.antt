use Rattle.std.proofs.Common.{◌≡◌, ◌<◌, ◌==◌, ℕ, sym, ◌∙◌, length, slice_index_or, arith, eqb-true, eq-eqb}
use Rattle.std.proofs.lemmas.Grind.{same_number_lists}
use Rattle.svc_core_laws.proofs.SameCore.{same_words-by}
use Rattle.svc_core.proofs.Differing.{agree_more, none_more}
use Rattle.svc_core.proofs.core_state.are_same_words.Goals as goal

pub loop-place-preserved : goal.loop-place-preserved
loop-place-preserved c = record {
  agree = agree_more c.args.a.now c.args.b.now c.loop-place.differing c.loop-place.place c.loop-place.invariant.agree;
  none = λ same. none_more c.args.a.now c.args.b.now c.loop-place.differing c.loop-place.place same (c.loop-place.invariant.none same);
}

pub returns : goal.returns
returns c = same_words-by c.args.a.now c.args.b.now (c.loop-place.differing == 0)
    (λ h. same_number_lists c.args.a.now c.args.b.now (c.told-a ∙ sym c.told-b) (agree (eqb-true c.loop-place.differing 0 h)))
    (λ same. eq-eqb c.loop-place.differing 0 (c.loop-place.invariant.none same))
  where
    agree : c.loop-place.differing ≡ 0 → (k : ℕ) → k < length c.args.a.now → slice_index_or c.args.a.now k 0 ≡ slice_index_or c.args.b.now k 0
    agree none k h = c.loop-place.invariant.agree none k (omega arith)
