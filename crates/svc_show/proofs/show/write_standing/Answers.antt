use Rattle.std.proofs.Common.{Some, List, ℕ, subst}
use Rattle.std.specs.Io.KnownBytes.{Appends}
use Rattle.svc_bus.specs.State.{bus_state}
use Rattle.svc_bus_laws.specs.BusState.{state_of}
use Rattle.svc_report.proofs.PlainLines.{on_ok, then_appends}
use Rattle.svc_show.specs.Show.{asked_moves, machine_rows}
use Rattle.svc_show.proofs.Standings.{shown_at}
use Rattle.svc_show.proofs.show.write_standing.Goals as goal

pub returns : goal.returns
returns c = λ s at.
    let m = c.args.machine.now in
    let extras = c.args.extras in
    let a = Some c.args.rows.now.items in
    let b = Some c.write_machine.new.rows.items in
    let d = Some c.write_moves.new.rows.items in
    let first = subst (Appends a b) (shown_at extras m s at) c.in_ok-write_machine.ensures in
    on_ok c.write_moves.result
    (λ h. then_appends a b d (machine_rows extras m.image m.config s.plain (state_of 0 s.lines)) (asked_moves extras.moves m.image m.config s) first h)
    (c.write_moves.ensures s at)
