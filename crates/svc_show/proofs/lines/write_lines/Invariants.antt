use Rattle.std.proofs.Common.{◌≡◌, ◌++◌}
use Rattle.svc_bus.specs.State.{bus_state}
use Rattle.svc_show.specs.Named.{named_lines}
use Rattle.svc_show.proofs.lines.write_lines.Given as goal

abbrev pub invariant-loop-unit : goal.invariant-loop-unit
invariant-loop-unit l = l.rows.items ≡ l.fn.rows.items ++ named_lines l.unit (bus_state l.machine.bus) l.named
