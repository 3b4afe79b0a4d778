use Rattle.std.proofs.Common.{◌≡◌, ◌++◌, take}
use Rattle.std.specs.Prelude.{flat_map}
use Rattle.svc_bus.specs.State.{bus_state}
use Rattle.svc_show.specs.Named.{named_memory}
use Rattle.svc_show.proofs.memory.write_words.Given as goal

abbrev pub invariant-loop-one : goal.invariant-loop-one
invariant-loop-one l =
    l.rows.items ≡ l.fn.rows.items ++ flat_map (named_memory l.machine.image l.machine.config l.machine.plain (bus_state l.machine.bus) l.asked) (take l.one-index l.named)
