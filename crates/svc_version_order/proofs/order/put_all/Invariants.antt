use Rattle.std.proofs.Common.{◌≡◌, ◌++◌, take}
use Rattle.std.specs.Prelude.{flat_map}
use Rattle.svc_core_laws.specs.Words.{program}
use Rattle.svc_bus.specs.State.{bus_state}
use Rattle.svc_machine_laws.specs.PlainMachine.{running}
use Rattle.svc_version_order.specs.Order.{named_row}
use Rattle.svc_version_order.proofs.order.put_all.Given as goal

abbrev pub invariant-loop-one : goal.invariant-loop-one
invariant-loop-one l =
    l.rows.items ≡ l.fn.rows.items
    ++ flat_map (named_row l.units (bus_state l.machine.bus) l.machine.plain.commits (running (program l.machine.image) l.machine.plain)) (take l.one-index l.named)
