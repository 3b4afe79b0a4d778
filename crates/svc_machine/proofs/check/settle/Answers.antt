use Rattle.std.proofs.Common.{ℕ, suc, ◌≡◌, true, cond, drop, take, List, Some, None, Option, ◌∙◌, ◌+◌, ap, sym, subst, add-one, get_or, arith}
use Rattle.svc_bus_laws.specs.BusState.{Agrees}
use Rattle.svc_bus_laws.specs.Steps.{squash}
use Rattle.svc_bus.specs.State.{bus_state}
use Rattle.svc_machine_laws.specs.declared.reply.Cut.{Cut}
use Rattle.svc_machine_laws.specs.declared.reply.Cause.TheVariants as cause
use Rattle.svc_machine_laws.specs.Guide.{Guide, guide_cut}
use Rattle.svc_machine_laws.specs.PlainMachine.{cuts_next}
use Rattle.svc_machine_laws.specs.Replies.{cut_from}
use Rattle.svc_machine.specs.declared.seat.Seat.{Seat}
use Rattle.svc_machine.proofs.Settling.{next_here, next_works, next_later, next_place}
use Rattle.svc_machine.proofs.check.settle.Goals as goal

pub index-requires : goal.index-requires
index-requires c =
    let cuts : cuts_next c.args.end (drop (suc c.args.place) c.args.sequencer.now.active) ≡ true = sym c.settle.ensures ∙ c.if-not-settle.false in
    let more = next_here c.args.seats.now.items c.args.place c.args.end (ap (λ l. cuts_next c.args.end (drop (suc c.args.place) l)) (sym c.requires.lined) ∙ cuts) in
    let n = c.args.seats.now.ok.0 in
    omega (arith, more, n)

-- the next seat, whose unit is squashed
there : (seats : List Seat) (place : ℕ) (next : Seat) → next ≡ get_or seats (place + 1) next → next ≡ get_or seats (suc place) next
there seats place next is = is ∙ ap (λ k. get_or seats k next) (add-one place)

pub squash_from-requires-clause-at_work : goal.squash_from-requires-clause-at_work
squash_from-requires-clause-at_work c =
    let seats = c.args.seats.now.items in
    let cuts : cuts_next c.args.end (drop (suc c.args.place) c.args.sequencer.now.active) ≡ true = sym c.settle.ensures ∙ c.if-not-settle.false in
    let more = next_here seats c.args.place c.args.end (ap (λ l. cuts_next c.args.end (drop (suc c.args.place) l)) (sym c.requires.lined) ∙ cuts) in
    let t = c.requires.units in
    next_works (bus_state c.args.bus.now) t.0 t.1 seats t.2 c.args.place c.index.result.now more (there seats c.args.place c.index.result.now c.index.ensures)

pub squash_from-requires-clause-later : goal.squash_from-requires-clause-later
squash_from-requires-clause-later c =
    let seats = c.args.seats.now.items in
    let cuts : cuts_next c.args.end (drop (suc c.args.place) c.args.sequencer.now.active) ≡ true = sym c.settle.ensures ∙ c.if-not-settle.false in
    let more = next_here seats c.args.place c.args.end (ap (λ l. cuts_next c.args.end (drop (suc c.args.place) l)) (sym c.requires.lined) ∙ cuts) in
    let t = c.requires.units in
    next_later (bus_state c.args.bus.now) t.0 t.1 seats t.2 c.args.place c.index.result.now more (there seats c.args.place c.index.result.now c.index.ensures)

pub returns : goal.returns
returns c =
    let seats = c.args.seats.now.items in
    let place = c.args.place in
    let one : place + 1 ≡ suc place = add-one place in
    let cuts : cuts_next c.args.end (drop (suc place) c.args.sequencer.now.active) ≡ true = sym c.settle.ensures ∙ c.if-not-settle.false in
    let more = next_here seats place c.args.end (ap (λ l. cuts_next c.args.end (drop (suc place) l)) (sym c.requires.lined) ∙ cuts) in
    let units = c.requires.units in
    record {
      cut =
          ap {B = Option Cut} (λ k. Some k) (c.cut_from-cut.ensures ∙ ap (cut_from cause.WrongGuess c.args.commits c.args.count) one)
          ∙ sym (ap {B = Option Cut} (λ x. cond x (Some (cut_from cause.WrongGuess c.args.commits c.args.count (suc place))) None) cuts);
      lines = λ t agrees.
          let here = next_place (bus_state c.args.bus.now) units.0 units.1 seats units.2 place c.index.result.now more (there seats c.args.place c.index.result.now c.index.ensures) t agrees in
          subst (λ x. Agrees (bus_state c.squash_from.new.self) (cond x (squash t (suc place)) t)) (sym cuts) (c.squash_from.ensures.table t (suc place) (record { agrees = agrees; within = here.0; unit_is = here.1 }));
      seats = c.truncate.ensures.items ∙ ap (λ k. take k seats) one ∙ sym (ap {B = List Seat} (λ x. cond x (take (suc place) seats) seats) cuts);
      guide = c.cut_from.ensures ∙ ap (λ k. guide_cut k c.args.sequencer.now) one ∙ sym (ap {B = Guide} (λ x. cond x (guide_cut (suc place) c.args.sequencer.now) c.args.sequencer.now) cuts);
      capacity = c.truncate.ensures.capacity;
    }
