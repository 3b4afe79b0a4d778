use Rattle.std.proofs.Common.{◌≡◌, ◌++◌, ℕ}
use Rattle.std.specs.Prelude.{flat_map}
use Rattle.std.specs.List.{range_with_len}
use Rattle.svc_bus.specs.State.{bus_state}
use Rattle.svc_version_order.specs.Order.{clean_field}
use Rattle.svc_version_order.proofs.clean.put_all_clean.Given as goal

abbrev pub invariant-loop-unit : goal.invariant-loop-unit
invariant-loop-unit l = l.rows.items ≡ l.fn.rows.items ++ flat_map (λ (unit : ℕ). clean_field unit ((bus_state l.machine.bus).lines unit l.named.word.0)) (range_with_len 0 l.unit)
