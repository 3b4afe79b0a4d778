use Rattle.std.proofs.Common.{◌≡◌, ◌∙◌, sym, ap, ap₂, List, length, Option, Some, None, ℕ, inl, inr}
use Rattle.svc_core.specs.Places.{trap_of}
use Rattle.svc_core_laws.specs.declared.ask.Ask.TheVariants as ask
use Rattle.svc_core_laws.specs.Numbers.{store_bytes}
use Rattle.svc_core_laws.specs.Turns.{store_trap, data_words}
use Rattle.svc_bus.specs.Calls.{full_refusal}
use Rattle.svc_bus.specs.State.{bus_state}
use Rattle.svc_bus.specs.Value.{BusValue}
use Rattle.svc_machine_laws.specs.Refusals.{asked_word, word_unless}
use Rattle.svc_machine_laws.specs.WholeMachine.{at_core}
use Rattle.svc_machine.specs.Asked.{HasRoomYet, read_first, refused_for}
use Rattle.svc_machine.specs.Kept.{whole_seat}
use Rattle.svc_machine.proofs.AskedTurns.{store_done}
use Rattle.svc_machine.proofs.asked.do_store.Goals as goal

pub write-requires-clause-running : goal.write-requires-clause-running
write-requires-clause-running c =
    let r = c.requires.running in
    let h = (c.in_ok-word-in-Ok.ensures {u = tt}).prepared r.0 r.1 r.2 in
    (read_first c.args.kind r.0 r.1 c.in-Ok.access.word, r.1, h.runs)

-- a word that the unit has room for in the end had room before
room_before : (old new : BusValue) (unit a : ℕ) → HasRoomYet old new unit a → full_refusal (bus_state new) unit a ≡ None → full_refusal (bus_state old) unit a ≡ None
room_before old new unit a (inl same) free = ap (λ (b : BusValue). full_refusal (bus_state b) unit a) (sym same) ∙ free
room_before old new unit a (inr room) free = room.0

pub returns-in_ok-cut-in-Ok : goal.returns-in_ok-cut-in-Ok
returns-in_ok-cut-in-Ok c =
    let cut = c.in_ok-cut-in-Ok.ensures {u = tt} in
    let unit = c.args.seat.now.lease.unit.0 in
    let inside : store_trap (data_words c.args.image.now) c.args.image.now.read_only (store_bytes c.args.kind) c.args.addr ≡ None =
    ap₂ (λ (ws : List ℕ) (r : ℕ). store_trap (length ws) r (store_bytes c.args.kind) c.args.addr) (sym c.data_words.ensures.value) (sym c.read_only.ensures.value) ∙ sym c.store_place.ensures.trap ∙ ap trap_of c.in-Ok.is in
    let word : asked_word c.args.image.now (ask.Store c.args.kind c.args.addr c.args.value) ≡ Some c.in-Ok.access.word =
    ap (λ (o : Option ℕ). word_unless o c.args.addr) inside ∙ ap {B = Option ℕ} (λ (a : ℕ). Some a) (sym c.in-Ok.ensures.place.0) in
    let free : full_refusal (bus_state c.args.bus.now) unit c.in-Ok.access.word ≡ None =
    room_before c.args.bus.now c.word_to_store.new.bus unit c.in-Ok.access.word (c.in_ok-word-in-Ok.ensures {u = tt}).room (sym cut.refused) in
    record {
      refused = sym free ∙ sym (ap (refused_for (bus_state c.args.bus.now) unit) word);
      unchanged = tt;
      done = λ t p runs.
          let h = (c.in_ok-word-in-Ok.ensures {u = tt}).prepared t p runs in
          store_done c.args.image.now (at_core c.args.core.now (whole_seat c.args.seat.now)) t p c.in-Ok.access.word c.in-Ok.access.lane c.args.value (bus_state c.word_to_store.new.bus) (bus_state c.write.new.bus)
          c.in_ok-word-in-Ok.word c.in_ok-word-in-Ok.served c.in_ok-cut-in-Ok.cut
          c.args.kind c.args.addr (store_trap (data_words c.args.image.now) c.args.image.now.read_only (store_bytes c.args.kind) c.args.addr) c.finish_store.new.self inside c.in-Ok.ensures.place.0 c.in-Ok.ensures.place.1 h
          (cut.cut (read_first c.args.kind t p c.in-Ok.access.word) p h.runs)
          (cut.table (read_first c.args.kind t p c.in-Ok.access.word) p h.runs)
          c.finish_store.ensures;
    }
