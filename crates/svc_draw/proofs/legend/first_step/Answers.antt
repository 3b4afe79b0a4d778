use Rattle.std.proofs.Common.{◌∙◌, ap, sym}
use Rattle.svc_draw.specs.Legend.{has_room}
use Rattle.svc_draw.proofs.Texts.{no_step, step_goes_on}
use Rattle.svc_draw.proofs.legend.first_step.Goals as goal

pub loop-step-preserved : goal.loop-step-preserved
loop-step-preserved c =
    c.loop-step.invariant ∙ step_goes_on (has_room c.args.shown) c.args.steps.now c.loop-step.step-index 0 c.loop-step-test.true
    (ap (has_room c.args.shown) (sym c.from-step.ensures) ∙ sym c.if-has_room.ensures)

pub returns : goal.returns
returns c = sym (c.loop-step.invariant ∙ no_step (has_room c.args.shown) c.args.steps.now c.loop-step.step-index c.loop-step-test.false)
