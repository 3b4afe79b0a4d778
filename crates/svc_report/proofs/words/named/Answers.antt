use Rattle.std.proofs.Common.{◌≡◌, ◌∙◌, ℕ, Some, slice_get, ◌<◌, ◌≤◌, ◌+◌, ◌⊎◌, inl, inr, ap, sym, refl, true, false, true≢false, arith}
use Rattle.std.specs.Cmp.Lexicographic.{bytes_decides}
use Rattle.std.proofs.Math.Nat.{eq-or-lt_of_le}
use Rattle.std.proofs.lemmas.Option.{slice_get_read, slice_get_within}
use Rattle.svc_report.proofs.words.named.Goals as goal

pub loop-word-preserved : goal.loop-word-preserved
loop-word-preserved g c = λ k x below at same.
    let most : k ≤ c.loop-word.word-index = omega arith in
    elim (eq-or-lt_of_le most) [
      | inl here ↦
          let items = c.all-word-items.result.now in
          let item = slice_get_read items _ c.loop-word.word-index c.word-item.result refl c.loop-word-test.true c.word-item.is in
          let both : Some x ≡ Some c.word-item.result = sym at ∙ (ap (slice_get items) here ∙ item) in
          let is_item : x ≡ c.word-item.result = cc in
          let text = c.as_bytes.ensures.value ∙ (c.text.ensures ∙ sym (same ∙ ap g.W.Word.word is_item)) in
          let equal = c.eq.ensures ∙ (bytes_decides c.as_bytes.result.now c.args.field.now).1 text in
          absurd (true≢false (sym equal ∙ c.if-eq.false))
      | inr before ↦ c.loop-word.invariant k x before at same
    ]

pub returns : goal.returns
returns g c = λ x any same.
    let (k, at) = c.all-word-items.ensures x in
    let inside = slice_get_within c.all-word-items.result.now k x at in
    c.loop-word.invariant k x (omega (arith, inside, c.loop-word-test.false)) at same
