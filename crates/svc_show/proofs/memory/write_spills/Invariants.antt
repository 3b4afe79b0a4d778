use Rattle.std.proofs.Common.{◌≡◌, ◌++◌, take}
use Rattle.std.specs.Prelude.{flat_map}
use Rattle.svc_bus.specs.State.{bus_state}
use Rattle.svc_show.specs.Named.{named_spill}
use Rattle.svc_show.proofs.memory.write_spills.Given as goal

abbrev pub invariant-loop-one : goal.invariant-loop-one
invariant-loop-one l =
    l.rows.items ≡ l.fn.rows.items ++ flat_map (named_spill (bus_state l.machine.bus)) (take l.one-index l.named)
