use Rattle.std.proofs.Common.{◌∙◌, ℕ, Some, ap}
use Rattle.svc_schedule.specs.Moves.{RunsOnBy}
use Rattle.svc_schedule.proofs.Making.{recorded, replace_answered, submit_made, submit_passed}
use Rattle.svc_schedule.proofs.step.run_on.Goals as goal

pub returns-in-SetFull : goal.returns-in-SetFull
returns-in-SetFull c =
    let old = c.args.recorder.now in
    let says = c.in-Err.ensures {u = tt} in
    let answered = λ (most : ℕ) (by : RunsOnBy most old c.args.unit c.args.burst.now). replace_answered most old c.apply-in-SetFull.new.self c.args.unit c.requires by.0 by.1 c.args.burst.now by.2
    c.apply.new.self says.unchanged c.in-SetFull.addr (says.refused ∙ ap Some c.in-SetFull.is) c.apply-in-SetFull.result c.is_ok.result c.is_ok.ensures.value
    c.apply-in-SetFull.ensures in
    record { made = λ e most by. (answered most by).0 e; passed = λ e most by. (answered most by).1 e }

pub returns-in_default-refusal : goal.returns-in_default-refusal
returns-in_default-refusal c =
    let old = c.args.recorder.now in
    let says = c.in-Err.ensures {u = tt} in
    record {
      made = λ e. absurd (cc (e));
      passed = λ _ most by. (
        says.unchanged,
        submit_passed most old c.apply.new.self c.args.unit c.requires by.0 by.1 c.args.burst.now by.2 c.in-Err.refusal
            (λ addr e. c.in_default-refusal.not-SetFull addr e) says.refused,
      );
    }

pub returns-in_default : goal.returns-in_default
returns-in_default c =
    let old = c.args.recorder.now in
    record {
      made = λ _ most by. submit_made most old c.apply.new.self c.args.unit c.requires by.0 by.1 c.args.burst.now by.2
          (recorded old c.apply.new.self _ c.in_default.field-0 (c.in_default.ensures {u = tt}));
      passed = λ e. absurd (cc (e));
    }
