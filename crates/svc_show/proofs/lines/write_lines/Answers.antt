use Rattle.std.proofs.Common.{Some}
use Rattle.std.specs.Prelude.{flat_map}
use Rattle.svc_bus.specs.State.{bus_state}
use Rattle.svc_show.specs.Named.{named_line}
use Rattle.svc_held.proofs.Ranges.{row_more}
use Rattle.svc_show.proofs.lines.write_lines.Goals as goal

pub loop-unit-preserved : goal.loop-unit-preserved
loop-unit-preserved c =
    let m = c.args.machine.now in
    let a = Some c.args.rows.now.items in
    let b = Some c.loop-unit.rows.items in
    let d = Some c.write_unit.new.rows.items in
    row_more (λ unit. flat_map (named_line (bus_state m.bus) unit) c.args.named.now) c.loop-unit.unit a b d c.loop-unit.invariant c.in_ok-write_unit.ensures
