use Rattle.std.proofs.Common.{◌≡◌, ◌∙◌}
use Rattle.svc_machine_laws.specs.Standing.{opened_at}
use Rattle.svc_history.specs.Recorded.{Recorded}
use Rattle.svc_explore.proofs.Leading.{opened_standing}
use Rattle.svc_explore.proofs.search.open_recorder.Goals as goal

pub returns-clause-opened : goal.returns-clause-opened
returns-clause-opened c =
    let r : Recorded = c.in-Ok-open.recorder in
    let image : r.machine.image ≡ c.args.image.now = c.in-Ok-open.ensures.image ∙ c.in-Ok.ensures.ok in
    let config : r.machine.config ≡ c.args.config = c.in-Ok-open.ensures.config in
    opened_standing r c.in-Ok-open.ensures.entries ∙ (λ i. opened_at (image i) (config i) 0)
