use Rattle.std.proofs.Common.{◌≡◌, ◌++◌, take}
use Rattle.std.specs.Prelude.{flat_map}
use Rattle.svc_bus.specs.State.{bus_state}
use Rattle.svc_show.specs.Named.{named_line}
use Rattle.svc_show.proofs.lines.write_unit.Given as goal

abbrev pub invariant-loop-one : goal.invariant-loop-one
invariant-loop-one l =
    l.rows.items ≡ l.fn.rows.items ++ flat_map (named_line (bus_state l.machine.bus) l.unit.0) (take l.one-index l.named)
