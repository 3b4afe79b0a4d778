use Rattle.std.proofs.Common.{◌∙◌, sym, ap, option_map}
use Rattle.svc_vol.specs.declared.held_line.HeldLine.{HeldLine}
use Rattle.svc_vcl.specs.Listed.{newest_version_in}
use Rattle.svc_bus.specs.State.{bus_state}
use Rattle.svc_bus.proofs.Requests.{listable}
use Rattle.svc_bus.proofs.Rooms.{room_for_each}
use Rattle.svc_bus.proofs.Newest.{newest_told}
use Rattle.svc_bus.proofs.bus.Bus.newest_committed.Goals as goal

pub of-list-requires-clause-room : goal.of-list-requires-clause-room
of-list-requires-clause-room c = room_for_each _ c.self.invariant c.new.result c.deref.result.now c.new.ensures.searches c.new.ensures.places c.deref.ensures.value

pub of-list-requires-clause-listed : goal.of-list-requires-clause-listed
of-list-requires-clause-listed c = listable _ c.self.invariant c.deref.result.now c.deref.ensures.value c.args.word.0

pub returns-in-Some : goal.returns-in-Some
unfolding bus_state
returns-in-Some c = record {
  unit = rw (← c.self.view_is) (
      ap (option_map (λ (v : HeldLine). v.unit.0)) (sym c.in-Some.is)
      ∙ newest_told _ c.self.invariant c.args.word.0 c.of-list.result c.deref.result.now c.deref.ensures.value c.of-list.ensures.list.committed c.of-list.ensures.list.active c.newest_version.result (c.newest_version.ensures ∙ ap newest_version_in c.committed.ensures.lines));
}

pub returns-in-None : goal.returns-in-None
unfolding bus_state
returns-in-None c = record {
  unit = rw (← c.self.view_is) (
      ap (option_map (λ (v : HeldLine). v.unit.0)) (sym c.in-None.is)
      ∙ newest_told _ c.self.invariant c.args.word.0 c.of-list.result c.deref.result.now c.deref.ensures.value c.of-list.ensures.list.committed c.of-list.ensures.list.active c.newest_version.result (c.newest_version.ensures ∙ ap newest_version_in c.committed.ensures.lines));
}
