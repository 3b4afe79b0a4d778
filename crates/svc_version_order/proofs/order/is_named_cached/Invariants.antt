use Rattle.std.proofs.Common.{◌≡◌}
use Rattle.std.specs.List.{list_any, range_with_len}
use Rattle.svc_bus.specs.State.{bus_state}
use Rattle.svc_held.specs.Held.{is_named_line}
use Rattle.svc_version_order.proofs.order.is_named_cached.Given as goal

abbrev pub invariant-loop-unit : goal.invariant-loop-unit
invariant-loop-unit l = l.cached ≡ list_any (is_named_line (bus_state l.machine.bus) l.named) (range_with_len 0 l.unit)
