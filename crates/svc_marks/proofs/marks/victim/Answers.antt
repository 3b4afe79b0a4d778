use Rattle.std.proofs.Common.{◌∙◌, sym}
use Rattle.svc_marks.specs.Marks.{is_victim}
use Rattle.svc_marks.proofs.Searching.{bar_goes_on, first_fails, no_bar, second_fails}
use Rattle.svc_marks.proofs.marks.victim.Goals as goal
use Rattle.svc_marks.proofs.marks.victim.Goals.{else-is_told-via-then-is_told+else-is_index, else-is_told-via-else-is_told}

pub loop-bar-preserved : goal.loop-bar-preserved
loop-bar-preserved c =
    let bars = c.args.bars.now in
    let i = c.loop-bar.bar-index in
    c.loop-bar.invariant ∙ bar_goes_on (is_victim c.args.entry.now c.args.at) bars i _ c.loop-bar-test.true
    (elim c.else-is_told.branch [
      | else-is_told-via-then-is_told+else-is_index w ↦ second_fails _ _ w.if-is_index.ensures
      | else-is_told-via-else-is_told w ↦ first_fails _ _ w.if-is_told.ensures
    ])

pub returns : goal.returns
returns c =
    sym (c.loop-bar.invariant ∙ no_bar (is_victim c.args.entry.now c.args.at) c.args.bars.now c.loop-bar.bar-index c.loop-bar-test.false)
