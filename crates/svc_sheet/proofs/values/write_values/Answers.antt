use Rattle.svc_sheet.proofs.Words.{words_end, words_move}
use Rattle.svc_sheet.proofs.values.write_values.Goals as goal

pub loop-mark-preserved : goal.loop-mark-preserved
loop-mark-preserved c =
    words_move c.args.frame.now.sheet c.loop-mark.edges _ c.args.marks.now c.loop-mark.mark-index _ c.loop-mark.text.items c.write_next.new.text.items _
    c.loop-mark-test.true c.in_ok-write_next.ensures.edges c.in_ok-write_next.ensures.text c.loop-mark.invariant

pub returns : goal.returns
returns c =
    words_end c.args.frame.now.sheet c.loop-mark.edges c.args.marks.now c.loop-mark.mark-index c.loop-mark.text.items _ c.loop-mark-test.false c.loop-mark.invariant
