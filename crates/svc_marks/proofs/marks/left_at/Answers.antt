use Rattle.std.proofs.Common.{◌∙◌, ◌-◌, sym, arith, drop, length, length-drop}
use Rattle.std.proofs.lemmas.List.{take_all}
use Rattle.svc_marks.proofs.Searching.{left_from, left_goes_on, none_left}
use Rattle.svc_marks.proofs.marks.left_at.Goals as goal

pub loop-index-preserved : goal.loop-index-preserved
loop-index-preserved c =
    c.loop-index.invariant ∙ left_goes_on c.args.at c.args.bars.now c.loop-index.index _ c.loop-index-test.true (sym c.if-not-is_over.ensures)

pub returns-then-not-is_over : goal.returns-then-not-is_over
returns-then-not-is_over c =
    let bars = c.args.bars.now in
    let i = c.loop-index.index in
    let count = length-drop i bars in
    take_all (length bars - i) (drop i bars) (omega (arith, count))
    ∙ sym (c.loop-index.invariant ∙ left_from c.args.at bars i _ c.loop-index-test.true (sym c.if-not-is_over.ensures))

pub returns : goal.returns
returns c = sym (c.loop-index.invariant ∙ none_left c.args.at c.args.bars.now c.loop-index.index c.loop-index-test.false)
