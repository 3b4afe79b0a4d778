use Rattle.std.proofs.Common.{◌≡◌, ◌∙◌, ap}
use Rattle.svc_machine.specs.Value.{MachineValue}
use Rattle.svc_history.specs.Recorded.{standing_of}
use Rattle.svc_explore_laws.specs.Observations.{numbers}
use Rattle.svc_observations.proofs.Rosters.{same_numbers}
use Rattle.svc_observations.proofs.sight.roster_of.Goals as goal

pub returns : goal.returns
returns c =
    let there = c.machine-machine.result.now.plain in
    let same : there ≡ (standing_of c.args.recorder.now).plain =
    ap (λ (m : MachineValue). m.plain) c.machine-machine.ensures.machine ∙ c.machine-machine.ensures.legal.here.plain in
    same_numbers there c.committed_tasks.result c.in_ok-units.units.items c.committed_tasks.ensures c.in_ok-units.ensures ∙ ap numbers same
