use Rattle.std.proofs.Common.{◌∙◌, sym, ap}
use Rattle.svc_marks.specs.Bars.{runs}
use Rattle.svc_marks.specs.Marks.{task_of}
use Rattle.svc_marks.proofs.Searching.{bar_goes_on, no_bar}
use Rattle.svc_marks.proofs.marks.task_at.Goals as goal

pub loop-bar-preserved : goal.loop-bar-preserved
loop-bar-preserved c =
    c.loop-bar.invariant
    ∙ bar_goes_on (runs c.args.unit c.args.at) c.args.bars.now c.loop-bar.bar-index _ c.loop-bar-test.true (sym c.if-runs.ensures)

pub returns : goal.returns
returns c =
    sym (ap task_of (c.loop-bar.invariant ∙ no_bar (runs c.args.unit c.args.at) c.args.bars.now c.loop-bar.bar-index c.loop-bar-test.false))
