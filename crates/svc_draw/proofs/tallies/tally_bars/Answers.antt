use Rattle.svc_draw.proofs.Remaining.{bars_end, bars_move}
use Rattle.svc_draw.proofs.tallies.tally_bars.Goals as goal

pub loop-bar-preserved : goal.loop-bar-preserved
loop-bar-preserved c =
    bars_move c.args.frame.now.sheet c.args.fate c.loop-bar.tallies _ _ c.args.bars.now c.loop-bar.bar-index _
    c.loop-bar-test.true c.add_bar.ensures c.loop-bar.invariant

pub returns : goal.returns
returns c =
    bars_end c.args.frame.now.sheet c.args.fate c.loop-bar.tallies _ c.args.bars.now c.loop-bar.bar-index c.loop-bar-test.false c.loop-bar.invariant
