use Rattle.svc_bus.specs.State.{bus_state}
use Rattle.svc_bus.proofs.ItsVersions.{its_versions}
use Rattle.svc_bus.proofs.Requests.{listable}
use Rattle.svc_bus.proofs.Rooms.{room_for_each}
use Rattle.svc_bus.proofs.bus.Bus.committed_versions.Goals as goal

pub of-list-requires-clause-room : goal.of-list-requires-clause-room
of-list-requires-clause-room c = room_for_each _ c.self.invariant c.new.result c.deref.result.now c.new.ensures.searches c.new.ensures.places c.deref.ensures.value

pub of-list-requires-clause-listed : goal.of-list-requires-clause-listed
of-list-requires-clause-listed c = listable _ c.self.invariant c.deref.result.now c.deref.ensures.value c.args.word.0

pub returns : goal.returns
unfolding bus_state
returns c = record {
  order = rw (← c.self.view_is, c.units_of.ensures, c.committed.ensures.lines)
      (its_versions _ c.self.invariant c.args.word.0 c.of-list.result c.deref.result.now c.deref.ensures.value c.of-list.ensures.list.committed c.of-list.ensures.list.active);
}
