use Rattle.std.proofs.Common.{Some, List, Option, Bool, ℕ, ◌∙◌, subst, sym, ap}
use Rattle.std.specs.Io.KnownBytes.{Appends}
use Rattle.svc_report.proofs.PlainLines.{on_ok, then_appends}
use Rattle.svc_base.specs.declared.refusal.Refusal.{Refusal}
use Rattle.svc_moves.specs.Rows.{move_row}
use Rattle.svc_moves.proofs.moves.put_event.Goals as goal

pub returns : goal.returns
returns c = λ s at.
    let a = Some c.args.rows.now.items in
    let b = Some c.put_move.new.rows.items in
    on_ok c.put_move.result (subst (λ (why : Option Refusal). Appends a b (move_row c.args.unit.0 c.args.kind.now c.args.arg why)) (c.refusal.ensures s at)) c.put_move.ensures
