use Rattle.std.proofs.Common.{ℕ, suc, ◌≡◌, ◌+◌, ◌∙◌, List, ap, subst, sym, arith, inl, inr}
use Rattle.svc_base.specs.declared.config.Config.{Config}
use Rattle.svc_machine.specs.Value.{MachineValue}
use Rattle.svc_base.specs.declared.ids.UnitId.{UnitId}
use Rattle.svc_image.specs.Image.{Image}
use Rattle.svc_schedule.specs.Bursts.{AreReady}
use Rattle.svc_schedule.specs.Steps.{FirstMoves, Steps, asked}
use Rattle.svc_core_laws.specs.Bursts.{Advance}
use Rattle.svc_schedule.proofs.Ending.{ended_is_over}
use Rattle.svc_schedule.proofs.Making.{ready_back}
use Rattle.svc_schedule.proofs.Stepping.{one_more}
use Rattle.svc_schedule.proofs.run.continue_schedule.Goals as goal
use Rattle.svc_schedule.proofs.run.continue_schedule.Goals.{else-loop-test, then-loop-test+then-has_ended}

pub take_step-requires-clause-going : goal.take_step-requires-clause-going
take_step-requires-clause-going g c = sym c.has_ended.ensures.ended ∙ c.if-has_ended.false

pub take_step-requires-clause-ready : goal.take_step-requires-clause-ready
take_step-requires-clause-ready g c =
    let i = c.loop.invariant in
    subst (λ (bs : List Advance). AreReady c.loop.recorder.machine.image c.args.burst bs) (sym c.deref_mut.ensures.value)
    (subst (λ (img : Image). AreReady img c.args.burst c.loop.bursts.items) (sym i.image) i.ready)

pub loop-preserved : goal.loop-preserved
loop-preserved g c =
    let i = c.loop.invariant in
    let from = c.loop.recorder in
    let to = c.take_step.new.recorder in
    let one = one_more c.args.burst from to (asked c.as_slice.result.now) c.take_step.ensures.moves in
    let next : suc c.loop.counter ≡ c.loop.counter + 1 = omega arith in
    record {
      image = one.image ∙ i.image;
      config = one.config ∙ i.config;
      count = omega (arith, one.count, i.count);
      ready = ready_back _ _ _ _ _ c.loop.bursts.ok.0 i.ready (subst (λ (img : Image). AreReady img c.args.burst c.take_step.new.bursts) i.image c.take_step.ensures.ready);
      steps =
          subst (λ (n : ℕ). Steps g.P.Policy.gives c.args.burst n c.args.policy.now c.order-order.new.self c.args.recorder.now to) next (
            c.loop.policy,
            from,
            c.order-order.result.items,
            i.steps,
            c.has_ended.ensures.legal,
            c.order-order.ensures,
            subst (λ (us : List UnitId). FirstMoves c.args.burst from to (asked us)) c.as_slice.ensures.value c.take_step.ensures.moves,
          );
    }

pub returns-clause-goes : goal.returns-clause-goes
returns-clause-goes g c =
    let i = c.loop.invariant in
    let turns : c.config-turns.result.turns ≡ c.args.recorder.now.machine.config.turns = ap (λ (k : Config). k.turns) (c.config-turns.ensures.config ∙ ap (λ (m : MachineValue). m.config) c.machine-machine.ensures.machine) in
    record {
      image = i.image;
      config_is = i.config;
      legal = c.keeps.ensures.legal;
      count = c.loop.counter;
      added = i.count;
      steps = i.steps;
      few = omega (arith, turns);
      gets_on = elim c.loop-test.branch [
        | else-loop-test w ↦ inr (omega (arith, w.loop-test.false, turns))
        | then-loop-test+then-has_ended w ↦ inl (ended_is_over c.loop.recorder.machine (sym (w.if-has_ended.ensures {u = tt}).ended))
      ];
    }
