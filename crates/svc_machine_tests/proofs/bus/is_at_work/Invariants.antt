use Rattle.std.proofs.Common.{◌≢◌, ℕ, ◌<◌, get_or}
use Rattle.svc_bus.specs.State.{bus_state}
use Rattle.svc_machine_tests.proofs.bus.is_at_work.Given as goal

abbrev pub invariant-loop-position : goal.invariant-loop-position
invariant-loop-position l = (p : ℕ) → p < l.position → get_or (bus_state l.bus).units p 0 ≢ l.unit.0
