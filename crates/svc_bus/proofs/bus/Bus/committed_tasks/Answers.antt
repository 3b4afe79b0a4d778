use Rattle.svc_bus.specs.State.{bus_state}
use Rattle.svc_bus.proofs.bus.Bus.committed_tasks.Goals as goal

pub returns-clause-agrees : goal.returns-clause-agrees
unfolding bus_state
returns-clause-agrees c = rw (← c.self.view_is) (c.self.invariant.linked.table, c.self.invariant.linked.agrees)
