use Rattle.std.proofs.Common.{◌∙◌, arith}
use Rattle.std.proofs.lemmas.Option.{slice_get-get_or}
use Rattle.std.proofs.lemmas.List.Elements.{All-get_or}
use Rattle.svc_script.specs.declared.script.Step.{Step}
use Rattle.svc_script.specs.declared.script.StepKind.TheVariants.{Assign}
use Rattle.svc_script.specs.Events.{IsEvent}
use Rattle.svc_script.proofs.LeadingOn.{keeps_none, one_more_led}
use Rattle.svc_script.proofs.events.lead_on.Goals as goal

pub loop-step-preserved : goal.loop-step-preserved
loop-step-preserved c =
    let none : Step = record { unit = record { 0 = 0 }; kind = Assign 0 } in
    let i = c.loop-step.invariant in
    let steps = c.args.steps.now in
    let at = c.loop-step.step-index in
    let is = All-get_or IsEvent steps at none c.loop-step-test.true c.requires in
    let done = c.do_step-answer.ensures in
    record {
      led =
          one_more_led steps at c.args.recorder.now c.loop-step.recorder c.do_step-answer.new.recorder c.loop-step.kept.items c.do_step-answer.new.kept.items _ c.do_step-answer.result
          i.led (slice_get-get_or steps at none (omega (arith, c.loop-step-test.true))) is done.step done.image done.config;
      none = keeps_none _ _ c.loop-step.recorder c.do_step-answer.result c.do_step-answer.new.recorder c.loop-step.kept.items c.do_step-answer.new.kept.items is done.step ∙ i.none;
    }
