use Rattle.std.proofs.Common.{◌∙◌}
use Rattle.svc_schedule.proofs.Opening.{scheduled}
use Rattle.svc_schedule.proofs.run.run_schedule.Goals as goal

pub returns-clause-run : goal.returns-clause-run
returns-clause-run g c =
    let opened = c.in_ok-recorder.ensures {u = tt} in
    scheduled g.P.Policy.gives c.args.burst c.args.policy.now c.continue_schedule.new.policy c.in_ok-recorder.recorder c.continue_schedule.new.recorder c.in_ok-continue_schedule.ensures.goes opened.entries
    c.args.image.now c.args.config (opened.image ∙ c.in-Ok.ensures.ok) opened.config
