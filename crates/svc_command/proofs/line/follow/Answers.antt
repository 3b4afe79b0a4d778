use Rattle.std.proofs.Common.{[]}
use Rattle.svc_command.specs.Line.{texts}
use Rattle.svc_command.proofs.InOrder.{none_left, one_more}
use Rattle.svc_command.proofs.line.follow.Goals as goal

pub loop-text-preserved : goal.loop-text-preserved
loop-text-preserved c = λ after.
    c.loop-text.invariant (one_more c.args.given.now c.loop-text.text-index record { ref_ptr = (0, 0); now = [] }
    (texts c.loop-text.rest.now) (texts c.in-Some.behind.now) c.loop-text-test.true c.in-Some.ensures after)

pub returns : goal.returns
returns c = λ yes.
    c.loop-text.invariant (none_left c.args.given.now c.loop-text.text-index (texts c.loop-text.rest.now) c.loop-text-test.false)
