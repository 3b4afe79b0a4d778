use Rattle.svc_bus.specs.State.{bus_state}
use Rattle.svc_bus.proofs.Beginning.{begin_room, begin_idle, begun_bus, begun_table}
use Rattle.svc_bus.proofs.bus.Bus.begin.Goals as goal

pub push-requires-clause-room : goal.push-requires-clause-room
unfolding bus_state
push-requires-clause-room c = begin_room _ c.args.unit.0 c.self.invariant (rw (← c.self.view_is) at c.requires.known) (rw (← c.self.view_is) at c.requires.idle)

pub push-requires-clause-idle : goal.push-requires-clause-idle
unfolding bus_state
push-requires-clause-idle c = begin_idle _ c.args.unit.0 c.self.invariant (rw (← c.self.view_is) at c.requires.known) (rw (← c.self.view_is) at c.requires.idle)

pub invariant_of-self : goal.invariant_of-self
unfolding bus_state
invariant_of-self c = rw c.push.ensures (begun_bus _ c.args.unit.0 c.self.invariant (rw (← c.self.view_is) at c.requires.known) (rw (← c.self.view_is) at c.requires.idle))

pub returns-clause-table : goal.returns-clause-table
unfolding bus_state
returns-clause-table c = rw (c.push.ensures, ← c.self.view_is) (begun_table _ c.args.unit.0 c.self.invariant (rw (← c.self.view_is) at c.requires.known) (rw (← c.self.view_is) at c.requires.idle))
