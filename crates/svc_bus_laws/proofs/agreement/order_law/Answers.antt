use Rattle.svc_bus_laws.proofs.OrderProofs.{order_dirty, order_strict, order_transitive, order_total, order_committed, order_tasks}
use Rattle.svc_bus_laws.proofs.agreement.order_law.Goals as goal

pub returns : goal.returns
returns c = record {
  dirty = order_dirty;
  strict = order_strict;
  transitive = order_transitive;
  total = order_total;
  committed = order_committed;
  tasks = order_tasks;
}
