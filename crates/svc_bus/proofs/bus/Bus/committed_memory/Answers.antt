use Rattle.std.proofs.Common.{◌≡◌, ◌∙◌, sym, subst, Some, None, List, length}
use Rattle.svc_cache.specs.Places.{CacheValue}
use Rattle.svc_vol.specs.declared.held_line.HeldLine.{HeldLine}
use Rattle.svc_vol.specs.Lines.{lines_in}
use Rattle.svc_vol.specs.Value.{AreCommitted}
use Rattle.svc_retire.specs.Purges.{IsNewest}
use Rattle.svc_bus_laws.specs.LineTable.{LineTable}
use Rattle.svc_bus_laws.specs.BusState.{Agrees}
use Rattle.svc_bus.specs.Value.{BusValue}
use Rattle.svc_bus.specs.State.{bus_state}
use Rattle.svc_bus.proofs.Requests.{listable}
use Rattle.svc_bus.proofs.Rooms.{room_for_each}
use Rattle.svc_bus.proofs.Committed.{committed_found}
use Rattle.svc_bus.proofs.bus.Bus.committed_memory.Goals as goal

pub of-list-requires-clause-room : goal.of-list-requires-clause-room
of-list-requires-clause-room c = room_for_each _ c.self.invariant c.new.result c.deref.result.now c.new.ensures.searches c.new.ensures.places c.deref.ensures.value

pub of-list-requires-clause-listed : goal.of-list-requires-clause-listed
of-list-requires-clause-listed c = listable _ c.self.invariant c.deref.result.now c.deref.ensures.value c.args.word.0

pub returns-in-Some : goal.returns-in-Some
unfolding bus_state
returns-in-Some c =
    let versions : List HeldLine = c.of-list.result.committed in
    let list : AreCommitted (lines_in c.self.inside.caches.items c.args.word.0) (length c.self.inside.caches.items) versions = subst (λ (caches : List CacheValue). AreCommitted (lines_in caches c.args.word.0) (length caches) versions) c.deref.ensures.value c.of-list.ensures.list.committed in
    let last : IsNewest versions (length versions) (Some c.in-Some.value) = subst (λ (vs : List HeldLine). IsNewest vs (length vs) (Some c.in-Some.value)) c.committed.ensures.lines c.in-Some.ensures in
    record { value = rw (← c.self.view_is) (committed_found _ c.args.word.0 versions (Some c.in-Some.value) c.self.invariant list last) }

pub returns-in-None : goal.returns-in-None
unfolding bus_state
returns-in-None c =
    let versions : List HeldLine = c.of-list.result.committed in
    let list : AreCommitted (lines_in c.self.inside.caches.items c.args.word.0) (length c.self.inside.caches.items) versions = subst (λ (caches : List CacheValue). AreCommitted (lines_in caches c.args.word.0) (length caches) versions) c.deref.ensures.value c.of-list.ensures.list.committed in
    let last : IsNewest versions (length versions) None = subst (λ (vs : List HeldLine). IsNewest vs (length vs) None) c.committed.ensures.lines c.in-None.ensures in
    let bus : BusValue = record { caches = c.self.inside.caches.items; spill = c.self.inside.spill; backing = c.self.inside.backing.items; units = c.self.inside.queue; commits = c.self.inside.commits; probes = c.self.inside.probes } in
    let said : (t : LineTable) → Agrees (bus_state bus) t → c.backing.result ≡ t.backing c.args.word.0 = rw (← c.self.view_is) at c.backing.ensures.value in
    record { value = rw (← c.self.view_is) (λ t agrees. said c.self.invariant.linked.table c.self.invariant.linked.agrees ∙ sym (c.self.invariant.linked.agrees.backing c.args.word.0) ∙ committed_found bus c.args.word.0 versions None c.self.invariant list last t agrees) }
