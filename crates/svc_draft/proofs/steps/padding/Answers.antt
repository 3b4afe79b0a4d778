use Rattle.std.proofs.Common.{◌≡◌, ◌-◌, ◌%◌, ◌<◌, arith, rules}
use Rattle.std.proofs.Math.Nat.{mod-eq_of_lt}
use Rattle.svc_draft.proofs.steps.padding.Goals as goal

-- what is left of a step behind a rest of it is less than the step
pub returns-in_default : goal.returns-in_default
returns-in_default c =
    let less : c.args.step - c.args.size % c.args.step < c.args.step = omega arith in
    let same : (c.args.step - c.args.size % c.args.step) % c.args.step ≡ c.args.step - c.args.size % c.args.step = mod-eq_of_lt less in
    search rules
