use Rattle.std.proofs.Common.{arith}
use Rattle.std.proofs.lemmas.Option.{slice_get-get_or}
use Rattle.svc_script.specs.declared.script.Step.{Step}
use Rattle.svc_script.specs.declared.script.StepKind.TheVariants.{Assign}
use Rattle.svc_script.proofs.Played.{one_more_played}
use Rattle.svc_script.proofs.playing.play.Goals as goal

pub loop-step-preserved : goal.loop-step-preserved
loop-step-preserved g c =
    let none : Step = record { unit = record { 0 = 0 }; kind = Assign 0 } in
    one_more_played c.args.steps.now c.loop-step.step-index c.args.recorder.now c.loop-step.recorder c.do_step-answer.new.recorder c.args.kept.now.items c.loop-step.kept.items c.do_step-answer.new.kept.items
    (g.O.Write.contents c.args.out.now) (g.O.Write.contents c.loop-step.out) (g.O.Write.contents c.write_answer.new.out) _ c.do_step-answer.result c.loop-step.invariant
    (slice_get-get_or c.args.steps.now c.loop-step.step-index none (omega (arith, c.loop-step-test.true)))
    c.do_step-answer.ensures.step c.do_step-answer.ensures.image c.do_step-answer.ensures.config c.in_ok-write_answer.ensures.text
