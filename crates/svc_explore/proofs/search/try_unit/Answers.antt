use Rattle.std.proofs.Common.{◌≡◌, ◌≤◌, IfOk, List, subst, sym}
use Rattle.svc_base.specs.declared.ids.UnitId.{UnitId}
use Rattle.svc_machine_laws.specs.Standing.{opened_at}
use Rattle.svc_history.specs.Recorded.{Recorded, standing_of}
use Rattle.svc_explore.specs.Recorders.{GaveFew, Leads, LeadsOnly}
use Rattle.svc_explore.specs.Tries.{IsOff, ShowsIt, TriedBy}
use Rattle.svc_explore.proofs.search.try_unit.Goals as goal

pub try_at-requires : goal.try_at-requires
try_at-requires c = record { few = subst (λ (r : Recorded). GaveFew (standing_of r)) (sym c.copy_from.ensures) c.requires.few }

pub returns-clause-tried : goal.returns-clause-tried
returns-clause-tried c =
    subst (λ (r : Recorded). IfOk c.try_at.result (λ t. (path : List UnitId)
    → LeadsOnly r.machine.image r.machine.config c.args.most path (standing_of r)
    → TriedBy r.machine.image r.machine.config c.args.most path c.args.unit.0 t))
    c.copy_from.ensures c.try_at.ensures.tried

pub returns-clause-shown : goal.returns-clause-shown
returns-clause-shown c =
    subst (λ (r : Recorded). IfOk c.try_at.result (λ t. (path : List UnitId)
    → Leads r.machine.image r.machine.config c.args.most (opened_at r.machine.image r.machine.config 0) path (standing_of r)
    → ShowsIt r.machine.image r.machine.config c.args.most path c.args.unit t))
    c.copy_from.ensures c.try_at.ensures.shown

pub returns-clause-off : goal.returns-clause-off
returns-clause-off c =
    subst (λ (r : Recorded). IfOk c.try_at.result (λ t. IsOff t → r.machine.config.events ≤ (standing_of r).plain.accepted))
    c.copy_from.ensures c.try_at.ensures.off

pub returns-clause-image : goal.returns-clause-image
returns-clause-image c = subst (λ (r : Recorded). c.try_at.new.recorder.machine.image ≡ r.machine.image) c.copy_from.ensures c.try_at.ensures.image

pub returns-clause-config : goal.returns-clause-config
returns-clause-config c = subst (λ (r : Recorded). c.try_at.new.recorder.machine.config ≡ r.machine.config) c.copy_from.ensures c.try_at.ensures.config
