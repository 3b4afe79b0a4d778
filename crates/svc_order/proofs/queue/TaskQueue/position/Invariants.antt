use Rattle.std.proofs.Common.{◌≢◌, ℕ, ◌<◌, get_or}
use Rattle.svc_order.specs.Order.{numbers}
use Rattle.svc_order.proofs.queue.TaskQueue.position.Given as goal

abbrev pub invariant-loop-position : goal.invariant-loop-position
invariant-loop-position l = (p : ℕ) → p < l.position → get_or (numbers l.self-inside.units.items) p 0 ≢ l.unit.0
