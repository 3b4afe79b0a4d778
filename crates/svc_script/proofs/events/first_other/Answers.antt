use Rattle.std.proofs.Common.{◌∙◌, arith, subst, sym}
use Rattle.std.specs.Prelude.{All}
use Rattle.std.proofs.lemmas.List.{take_all}
use Rattle.svc_script.specs.Events.{IsEvent}
use Rattle.svc_script.proofs.LeadingOn.{one_more_event}
use Rattle.svc_script.proofs.events.first_other.Goals as goal

pub loop-index-preserved : goal.loop-index-preserved
loop-index-preserved c = one_more_event c.args.steps.now c.loop-index.index _ c.loop-index-test.true c.loop-index.invariant (sym c.is_event.ensures ∙ c.if-not-is_event.false)

pub returns-clause-none : goal.returns-clause-none
returns-clause-none c = λ _. subst (All IsEvent) (take_all c.loop-index.index c.args.steps.now (omega (arith, c.loop-index-test.false))) c.loop-index.invariant
