use Rattle.std.proofs.Common.{◌≡◌, ◌<◌, ◌∙◌, ap, arith, get_or, length, refl, subst, sym}
use Rattle.svc_image.specs.Image.{Image}
use Rattle.svc_core_laws.specs.Bursts.{IsAdvance}
use Rattle.svc_machine.specs.Value.{MachineValue}
use Rattle.svc_schedule.specs.Moves.{IsBurstOf}
use Rattle.svc_machine_laws.specs.Events.{Assign, Commit}
use Rattle.svc_history.specs.Moves.{code_move}
use Rattle.svc_history.specs.Moves as move
use Rattle.svc_schedule.proofs.Making.{asked_made, asked_passed, ready_set}
use Rattle.svc_schedule.proofs.step.make_move.Goals as goal

pub returns-in-Begin-clause-made : goal.returns-in-Begin-clause-made
returns-in-Begin-clause-made c = λ e.
    let old = c.args.recorder.now in
    let sees = c.in-Ok.ensures {u = tt} in
    let is = sym sees.moves ∙ ap code_move c.in-Begin.is in
    asked_made c.args.most old c.apply.new.self c.args.unit sees.refused (move.Begin c.in-Begin.guess) (Assign c.args.unit.0 c.in-Begin.guess) is refl
    c.apply.result c.is_ok.result c.is_ok.ensures.value c.apply.ensures e

pub returns-in-Begin-clause-passed : goal.returns-in-Begin-clause-passed
returns-in-Begin-clause-passed c = λ e.
    let old = c.args.recorder.now in
    let sees = c.in-Ok.ensures {u = tt} in
    let is = sym sees.moves ∙ ap code_move c.in-Begin.is in
    asked_passed c.args.most old c.apply.new.self c.args.unit sees.refused (move.Begin c.in-Begin.guess) (Assign c.args.unit.0 c.in-Begin.guess) is refl
    c.apply.result c.is_ok.result c.is_ok.ensures.value c.apply.ensures e

pub returns-in-Commit-clause-made : goal.returns-in-Commit-clause-made
returns-in-Commit-clause-made c = λ e.
    let old = c.args.recorder.now in
    let sees = c.in-Ok.ensures {u = tt} in
    let is = sym sees.moves ∙ ap code_move c.in-Commit.is in
    asked_made c.args.most old c.apply-in-Commit.new.self c.args.unit sees.refused move.Commit (Commit c.args.unit.0) is refl
    c.apply-in-Commit.result c.is_ok-in-Commit.result c.is_ok-in-Commit.ensures.value c.apply-in-Commit.ensures e

pub returns-in-Commit-clause-passed : goal.returns-in-Commit-clause-passed
returns-in-Commit-clause-passed c = λ e.
    let old = c.args.recorder.now in
    let sees = c.in-Ok.ensures {u = tt} in
    let is = sym sees.moves ∙ ap code_move c.in-Commit.is in
    asked_passed c.args.most old c.apply-in-Commit.new.self c.args.unit sees.refused move.Commit (Commit c.args.unit.0) is refl
    c.apply-in-Commit.result c.is_ok-in-Commit.result c.is_ok-in-Commit.ensures.value c.apply-in-Commit.ensures e

pub make_burst-requires : goal.make_burst-requires
make_burst-requires c =
    let burst = get_or c.args.bursts.now c.from.result c.index-bursts-from.result in
    let image_is : c.image.result.now ≡ c.args.recorder.now.machine.image = c.image.ensures ∙ ap (λ (m : MachineValue). m.image) c.machine.ensures.machine in
    let known = (c.in-Ok.ensures {u = tt}).refused in
    let few = c.args.recorder.now.machine.config.few_units in
    let below : c.from.result < length c.args.bursts.now = omega (arith, c.from.ensures, c.requires.ready.count, known, few) in
    subst (λ (i : Image). IsAdvance i c.args.most burst) (sym image_is) (c.requires.ready.each c.from.result c.index-bursts-from.result below)

pub returns-in-RunOn-clause-made : goal.returns-in-RunOn-clause-made
returns-in-RunOn-clause-made c = λ e.
    let sees = c.in-Ok.ensures {u = tt} in
    let image_is : c.image.result.now ≡ c.args.recorder.now.machine.image = c.image.ensures ∙ ap (λ (m : MachineValue). m.image) c.machine.ensures.machine in
    let is : IsBurstOf c.args.recorder.now.machine.image c.args.most c.in-RunOn.lease.now c.make_burst.new.burst =
    subst (λ (i : Image). IsBurstOf i c.args.most c.in-RunOn.lease.now c.make_burst.new.burst) image_is c.make_burst.ensures in
    c.run_on.ensures.made e c.args.most (c.in-RunOn.lease.now, sym sees.moves ∙ ap code_move c.in-RunOn.is, is)

pub returns-in-RunOn-clause-passed : goal.returns-in-RunOn-clause-passed
returns-in-RunOn-clause-passed c = λ e.
    let sees = c.in-Ok.ensures {u = tt} in
    let image_is : c.image.result.now ≡ c.args.recorder.now.machine.image = c.image.ensures ∙ ap (λ (m : MachineValue). m.image) c.machine.ensures.machine in
    let is : IsBurstOf c.args.recorder.now.machine.image c.args.most c.in-RunOn.lease.now c.make_burst.new.burst =
    subst (λ (i : Image). IsBurstOf i c.args.most c.in-RunOn.lease.now c.make_burst.new.burst) image_is c.make_burst.ensures in
    c.run_on.ensures.passed e c.args.most (c.in-RunOn.lease.now, sym sees.moves ∙ ap code_move c.in-RunOn.is, is)

pub returns-in-RunOn-clause-ready : goal.returns-in-RunOn-clause-ready
returns-in-RunOn-clause-ready c =
    let image_is : c.image.result.now ≡ c.args.recorder.now.machine.image = c.image.ensures ∙ ap (λ (m : MachineValue). m.image) c.machine.ensures.machine in
    ready_set _ _ _ _ _ c.requires.ready
    (subst (λ (i : Image). IsAdvance i c.args.most c.make_burst.new.burst) image_is c.make_burst.ensures.advance)
