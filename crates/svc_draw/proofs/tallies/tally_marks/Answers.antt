use Rattle.svc_draw.proofs.Remaining.{marks_end, marks_move}
use Rattle.svc_draw.proofs.tallies.tally_marks.Goals as goal

pub loop-mark-preserved : goal.loop-mark-preserved
loop-mark-preserved c =
    marks_move c.args.frame.now.sheet c.args.kind c.loop-mark.tallies _ _ c.args.marks.now c.loop-mark.mark-index _
    c.loop-mark-test.true c.add_mark.ensures c.loop-mark.invariant

pub returns : goal.returns
returns c =
    marks_end c.args.frame.now.sheet c.args.kind c.loop-mark.tallies _ c.args.marks.now c.loop-mark.mark-index c.loop-mark-test.false c.loop-mark.invariant
