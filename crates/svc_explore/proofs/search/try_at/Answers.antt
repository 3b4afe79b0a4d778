use Rattle.std.proofs.Common.{◌≡◌, ◌∙◌, false, ap, sym}
use Rattle.svc_machine.specs.Reads.{is_full}
use Rattle.svc_history.specs.Recorded.{Recorded}
use Rattle.svc_explore.specs.Tries.{IsTried}
use Rattle.svc_explore.proofs.Leading.{has_room}
use Rattle.svc_explore.proofs.Exploring.{if_ok, shows_it, tried_by}
use Rattle.svc_explore.proofs.search.try_at.Goals as goal

pub try_move-requires : goal.try_move-requires
try_move-requires c =
    let r : Recorded = c.args.recorder.now in
    let full : is_full r.machine ≡ false = ap is_full (sym c.machine.ensures.machine) ∙ sym (c.if-is_full.ensures {u = tt}).full in
    record { room = has_room r c.keeps.ensures.legal.here c.requires.few full }

pub returns-clause-tried : goal.returns-clause-tried
returns-clause-tried c =
    let r : Recorded = c.args.recorder.now in
    let full : is_full r.machine ≡ false = ap is_full (sym c.machine.ensures.machine) ∙ sym (c.if-is_full.ensures {u = tt}).full in
    if_ok c.try_move.result (IsTried c.args.most r c.args.unit.0) _
    (λ t told path only. tried_by c.args.most r c.args.unit.0 c.keeps.ensures.reached (has_room r c.keeps.ensures.legal.here c.requires.few full) t told path only) c.try_move.ensures.tried

pub returns-clause-shown : goal.returns-clause-shown
returns-clause-shown c =
    let r : Recorded = c.args.recorder.now in
    if_ok c.try_move.result (IsTried c.args.most r c.args.unit.0) _ (λ t told path leads. shows_it c.args.most r c.args.unit path leads t told) c.try_move.ensures.tried
