-- The turns that a burst brings are the next ones of its task.
use Rattle.std.proofs.Common.{ℕ, ◌≡◌, ◌∙◌, ◌==◌, ◌+◌, ◌-◌, List, Option, Some, None, Result, Err, refl, sym, ap, ap₂, subst, map, take, length, slice_set, arith}
use Rattle.std.proofs.lemmas.Result.{err_from_is_err_and}
use Rattle.std.specs.List.{position}
use Rattle.svc_base.specs.declared.refusal.Refusal.{Refusal}
use Rattle.svc_core_laws.specs.Bursts.{Advance}
use Rattle.svc_core_laws.specs.Words.{program}
use Rattle.svc_bus_laws.specs.LineTable.{LineTable}
use Rattle.svc_bus_laws.specs.BusState.{Agrees}
use Rattle.svc_bus.specs.State.{bus_state}
use Rattle.svc_bus.specs.Value.{BusValue}
use Rattle.svc_machine_laws.specs.declared.reply.Cut.{Cut}
use Rattle.svc_machine_laws.specs.declared.reply.Reply.{Reply}
use Rattle.svc_machine_laws.specs.WholeMachine.{machine_of, at_core, seat_of}
use Rattle.svc_machine_laws.specs.Standing.{Standing, refusal_of}
use Rattle.svc_machine_laws.specs.Events.{Event, Submit, asked_want, seat_place}
use Rattle.svc_machine_laws.specs.Blame.{tasks_cut}
use Rattle.svc_machine_laws.specs.Guide.{guide_cut}
use Rattle.svc_machine_laws.proofs.Followed.{map_count}
use Rattle.svc_machine.specs.declared.seat.Seat.{Seat}
use Rattle.svc_machine.specs.declared.machine.Machine.TheInside.{Inside}
use Rattle.svc_machine.specs.Asked.{IsDone}
use Rattle.svc_machine.specs.Kept.{Parts, Kept, machine_value, whole_seat}
use Rattle.svc_machine.specs.Seats.{is_misled, plain_of}
use Rattle.svc_machine.specs.Steps.{Accepts, IsStep}
use Rattle.svc_machine.specs.Value.{MachineValue, StandsAt}
use Rattle.svc_machine.proofs.Keeping.{IsAccepted, Moved, parts_of, accepted_step, kept_after, refused_step, taken_as, tasks_seen}
use Rattle.svc_machine.proofs.Seats.{place_below}
use Rattle.svc_machine.proofs.Settling.{seats_kept}
use Rattle.svc_machine.proofs.Testing.{placed_at}
use Rattle.svc_machine.proofs.Submitting.{can, admitted_as, at_place, refused_as, wordless, its_task_runs, its_words, its_turn, cut_few, small_numbers, seats_back, seats_left, lined, has_units, moved_by, replied_by}
use Rattle.svc_machine.proofs.machine.Machine.submit.Goals as goal

pub index_mut-seat-requires : goal.index_mut-seat-requires
index_mut-seat-requires c =
    let seats = c.self.inside.seats in
    place_below seats.items c.args.burst.now.unit.0 c.args.place _ seats.ok.0 (placed_at _ c.self.invariant seats.items refl _ c.self.view_is c.args.burst.now.unit.0 c.args.place c.requires.found)

pub do_asked-requires-clause-running : goal.do_asked-requires-clause-running
do_asked-requires-clause-running c =
    let found = placed_at _ c.self.invariant c.self.inside.seats.items refl _ c.self.view_is c.args.burst.now.unit.0 c.args.place c.requires.found in
    (c.self.invariant.lines, c.args.place, its_task_runs _ c.self.invariant c.args.burst.now c.self.inside.seats.items refl c.args.place found c.index_mut-seat.result.now c.index_mut-seat.ensures.value c.self.invariant.lines c.self.invariant.agrees)

pub do_asked-requires-clause-waiting : goal.do_asked-requires-clause-waiting
do_asked-requires-clause-waiting c = λ none.
    let found = placed_at _ c.self.invariant c.self.inside.seats.items refl _ c.self.view_is c.args.burst.now.unit.0 c.args.place c.requires.found in
    let ok = wordless _ c.self.invariant c.args.burst.now c.self.inside.seats.items refl c.args.place found c.index_mut-seat.result.now c.index_mut-seat.ensures.value
    (admitted_as c.args.burst.now _ _ c.self.view_is c.requires.admitted) c.ask.result c.ask.ensures.ask none in
    its_words _ c.self.invariant c.args.burst.now c.self.inside.seats.items refl c.args.place found c.index_mut-seat.result.now c.index_mut-seat.ensures.value ok c.end.ensures.follows c.end.result.now c.end.ensures.end

pub tasks_left-left-requires : goal.tasks_left-left-requires
tasks_left-left-requires c =
    let found = placed_at _ c.self.invariant c.self.inside.seats.items refl _ c.self.view_is c.args.burst.now.unit.0 c.args.place c.requires.found in
    let ok = refused_as _ c.self.invariant c.args.burst.now c.self.inside.seats.items refl c.args.place found c.index_mut-seat.result.now c.index_mut-seat.ensures.value (admitted_as c.args.burst.now _ _ c.self.view_is c.requires.admitted) c.ask.result c.ask.ensures.ask None (c.in_ok-reply.ensures {u = tt}).refused in
    let done = its_turn _ c.self.invariant c.args.burst.now c.self.inside.seats.items refl c.args.place found c.index_mut-seat.result.now c.index_mut-seat.ensures.value ok c.end.result.now c.ask.result c.end.ensures.end c.ask.ensures.ask
    (whole_seat c.do_asked.new.seat) (bus_state c.do_asked.new.bus) c.in_ok-reply.reply (c.in_ok-reply.ensures {u = tt}).done in
    let few = cut_few _ c.self.invariant c.args.burst.now ok c.args.place (at_place _ c.self.invariant c.args.burst.now c.self.inside.seats.items refl c.args.place found)
    (whole_seat c.do_asked.new.seat) (bus_state c.do_asked.new.bus) c.in_ok-reply.reply done in
    let count = c.len-count.ensures ∙ c.self.inside.seats.ok.0 ∙ sym (map_count whole_seat c.self.inside.seats.items) in
    omega (arith, few, count)

-- how many tasks the asked turn leaves
left_of : (items : List Seat) (left count n len : ℕ) → left ≡ count - n → count ≡ len → len ≡ length items → left ≡ length (map whole_seat items) - n
left_of items left count n len left_is count_is len_is = left_is ∙ ap (λ k. k - n) (count_is ∙ len_is ∙ sym (map_count whole_seat items))

pub check_guess-wrong-requires : goal.check_guess-wrong-requires
check_guess-wrong-requires c =
    let m : Parts = parts_of c.self.inside in
    let b = c.args.burst.now in
    let items = c.self.inside.seats.items in
    let place = c.args.place in
    let found = placed_at m c.self.invariant items refl _ c.self.view_is b.unit.0 place c.requires.found in
    let ok = refused_as _ c.self.invariant b items refl place found c.index_mut-seat.result.now c.index_mut-seat.ensures.value (admitted_as b _ _ c.self.view_is c.requires.admitted) c.ask.result c.ask.ensures.ask None (c.in_ok-reply.ensures {u = tt}).refused in
    let at = at_place m c.self.invariant b items refl place found in
    let seat = whole_seat c.do_asked.new.seat in
    let bus = bus_state c.do_asked.new.bus in
    let reply = c.in_ok-reply.reply in
    let done = its_turn m c.self.invariant b items refl place found c.index_mut-seat.result.now c.index_mut-seat.ensures.value ok c.end.result.now c.ask.result c.end.ensures.end c.ask.ensures.ask
    seat bus reply (c.in_ok-reply.ensures {u = tt}).done in
    let left = left_of items c.tasks_left-left.result c.len-count.result (tasks_cut reply.cut) _ c.tasks_left-left.ensures c.len-count.ensures c.self.inside.seats.ok.0 in
    let seats = seats_left items c.truncate.new.self.items place c.tasks_left-left.result _ c.do_asked.new.seat c.truncate.ensures.items left in
    let guide = c.cut_from.ensures ∙ ap (λ n. guide_cut n c.self.inside.sequencer) left in
    let small = small_numbers m c.self.invariant b ok place at c.self.inside.config.few_units c.self.inside.config.few_events in
    let count = c.len-count.ensures ∙ c.self.inside.seats.ok.0 ∙ sym (map_count whole_seat items) in
    let few = small.1 in
    record {
      lined = lined m c.self.invariant b ok place at seat bus reply done c.end.ensures.follows c.truncate.new.self.items seats c.cut_from.new.self guide;
      units = has_units m c.self.invariant b ok place at seat bus reply done c.end.ensures.follows c.truncate.new.self.items seats c.cut_from.new.self guide;
      number = small.0;
      few = omega (arith, few, count);
    }

module _ (c : goal.After-or) where
  -- the fields before and after
  abbrev m : Parts
  m = parts_of c.self.inside

  abbrev after : Parts
  after = parts_of (record c.self.inside {
    bus = c.check_guess-wrong.new.bus;
    sequencer = c.check_guess-wrong.new.sequencer;
    seats = c.check_guess-wrong.new.seats;
    accepted = c.self.inside.accepted + 1;
  })

  abbrev b : Advance
  b = c.args.burst.now

  abbrev items : List Seat
  items = c.self.inside.seats.items

  found : position (λ (s : Seat). s.lease.unit.0 == b.unit.0) items ≡ Some c.args.place
  found = placed_at m c.self.invariant items refl _ c.self.view_is b.unit.0 c.args.place c.requires.found

  -- the bus has not refused it
  ok : IsAccepted (parts_of c.self.inside) (Submit c.args.burst.now)
  ok = refused_as _ c.self.invariant b items refl c.args.place found c.index_mut-seat.result.now c.index_mut-seat.ensures.value (admitted_as b _ _ c.self.view_is c.requires.admitted) c.ask.result c.ask.ensures.ask None (c.in_ok-reply.ensures {u = tt}).refused

  at_here : seat_place (machine_of (program m.image) m.plain) b.unit.0 ≡ Some c.args.place
  at_here = at_place m c.self.invariant b items refl c.args.place found

  admits : Accepts c.args.self.now (Submit c.args.burst.now)
  admits = subst (λ (v : MachineValue). Accepts v (Submit c.args.burst.now)) c.self.view_is ok

  -- the asked turn was done
  done : (t : LineTable) → Agrees (bus_state m.bus) t
      → IsDone m.image (asked_want m.image b) t c.args.place (at_core b.end (seat_of (can m c.self.invariant b ok).run)) (whole_seat c.do_asked.new.seat) (bus_state c.do_asked.new.bus) c.in_ok-reply.reply
  done =
      its_turn m c.self.invariant b items refl c.args.place found c.index_mut-seat.result.now c.index_mut-seat.ensures.value ok c.end.result.now c.ask.result c.end.ensures.end c.ask.ensures.ask
      (whole_seat c.do_asked.new.seat) (bus_state c.do_asked.new.bus) c.in_ok-reply.reply (c.in_ok-reply.ensures {u = tt}).done

  left_is : c.tasks_left-left.result ≡ length (map whole_seat items) - tasks_cut c.in_ok-reply.reply.cut
  left_is = left_of items c.tasks_left-left.result c.len-count.result (tasks_cut c.in_ok-reply.reply.cut) _ c.tasks_left-left.ensures c.len-count.ensures c.self.inside.seats.ok.0

  seats_are : map whole_seat c.truncate.new.self.items ≡ take (length (map whole_seat items) - tasks_cut c.in_ok-reply.reply.cut) (slice_set (map whole_seat items) c.args.place (whole_seat c.do_asked.new.seat))
  seats_are = seats_left items c.truncate.new.self.items c.args.place c.tasks_left-left.result _ c.do_asked.new.seat c.truncate.ensures.items left_is

  guide_is : c.cut_from.new.self ≡ guide_cut (length (map whole_seat items) - tasks_cut c.in_ok-reply.reply.cut) m.guide
  guide_is = c.cut_from.ensures ∙ ap (λ n. guide_cut n c.self.inside.sequencer) left_is

  moved : Moved m after (Submit b)
  moved =
      let held = c.truncate.new.self.items in
      let wrong = is_misled (map whole_seat held) c.args.place in
      moved_by m c.self.invariant b ok c.args.place at_here (whole_seat c.do_asked.new.seat) (bus_state c.do_asked.new.bus) c.in_ok-reply.reply done
      c.end.ensures.follows held seats_are c.cut_from.new.self guide_is after (record {
        image = refl;
        config = refl;
        tasks = tasks_seen c.check_guess-wrong.new.seats.items;
        commits = refl;
        accepted = refl;
        epoch = refl;
        lines = c.check_guess-wrong.ensures.lines;
        guide = c.check_guess-wrong.ensures.guide;
        seats = ap (map whole_seat) c.check_guess-wrong.ensures.seats ∙ seats_kept wrong c.args.place held;
        places = let checked = c.check_guess-wrong.ensures.capacity in let e = c.truncate.ensures.capacity in omega (arith, checked, e);
        output = refl;
        room = omega arith;
        stopped = refl;
      })

pub invariant_of-self-2 : goal.invariant_of-self-2
invariant_of-self-2 c = kept_after (m c) c.self.invariant (Submit c.args.burst.now) c.end.ensures.follows (ok c) (after c) (moved c)

pub returns : goal.returns
returns c =
    let r : Reply = record { what = c.in_ok-reply.reply.what; cut = c.or.result } in
    accepted_step c.args.self.now (machine_value (after c)) (Submit (b c)) r (admits c)
    (taken_as (m c) (after c) c.self.invariant _ c.self.view_is (Submit c.args.burst.now) c.end.ensures.follows (ok c) (moved c) r
    (λ t agrees.
    ap {B = Reply} (λ (o : Option Cut). record { what = c.in_ok-reply.reply.what; cut = o }) c.or.ensures
    ∙ replied_by (m c) c.self.invariant (b c) (ok c) c.args.place (at_here c) (whole_seat c.do_asked.new.seat) (bus_state c.do_asked.new.bus) c.in_ok-reply.reply (done c)
    c.end.ensures.follows c.truncate.new.self.items (seats_are c) c.cut_from.new.self (guide_is c)
    c.len-count.result (c.len-count.ensures ∙ c.self.inside.seats.ok.0 ∙ sym (map_count whole_seat (items c))) c.check_guess-wrong.result c.check_guess-wrong.ensures.cut t agrees))

-- ---- where the bus refuses it, nothing has changed

-- the fields with these seats and this bus
abbrev with_seats : Inside → List Seat → BusValue → Parts
with_seats m items bus = record (parts_of m) {
  plain = plain_of m.commits m.accepted m.epoch items;
  seats = map whole_seat items;
  bus = bus;
}

module _ (c : goal.After-from_residual) where
  back : slice_set c.self.inside.seats.items c.args.place c.do_asked.new.seat ≡ c.self.inside.seats.items
  back = seats_back c.self.inside.seats.items c.args.place c.index_mut-seat.result.now c.do_asked.new.seat (c.in_err-reply.ensures {u = tt}).unchanged.0 c.index_mut-seat.ensures.value

  same_bus : c.do_asked.new.bus ≡ c.self.inside.bus
  same_bus = (c.in_err-reply.ensures {u = tt}).unchanged.1

  -- the table of refusals has the bus's refusal
  why : (s : Standing) → StandsAt (machine_value (parts_of c.self.inside)) s → Some c.in_err-reply.field-0.0 ≡ refusal_of c.self.inside.image c.self.inside.config s (Submit c.args.burst.now)
  why s at =
      let m : Parts = parts_of c.self.inside in
      let b = c.args.burst.now in
      let items = c.self.inside.seats.items in
      let found = placed_at m c.self.invariant items refl _ c.self.view_is b.unit.0 c.args.place c.requires.found in
      sym (refused_as m c.self.invariant b items refl c.args.place found c.index_mut-seat.result.now c.index_mut-seat.ensures.value (admitted_as b _ _ c.self.view_is c.requires.admitted) c.ask.result c.ask.ensures.ask (Some c.in_err-reply.field-0.0) (c.in_err-reply.ensures {u = tt}).refused s at)

pub invariant_of-self : goal.invariant_of-self
invariant_of-self c =
    subst (λ (items : List Seat). Kept (with_seats c.self.inside items c.do_asked.new.bus)) (sym (back c))
    (subst (λ (bus : BusValue). Kept (with_seats c.self.inside c.self.inside.seats.items bus)) (sym (same_bus c)) c.self.invariant)

pub returns-in_err-reply : goal.returns-in_err-reply
returns-in_err-reply c =
    let x : Event = Submit c.args.burst.now in
    let e = c.in_err-reply.field-0.0 in
    let p = err_from_is_err_and c.from_residual.result c.from_residual.ensures.1 in
    let old : MachineValue = machine_value (parts_of c.self.inside) in
    let new : MachineValue = machine_value (with_seats c.self.inside (slice_set c.self.inside.seats.items c.args.place c.do_asked.new.seat) c.do_asked.new.bus) in
    let same : old ≡ new = ap₂ {C = MachineValue} (λ (items : List Seat) (bus : BusValue). machine_value (with_seats c.self.inside items bus)) (sym (back c)) (sym (same_bus c)) in
    subst (λ (v : MachineValue). IsStep v new x c.from_residual.result) c.self.view_is
    (subst (λ (r : Result Reply Refusal). IsStep old new x r) (sym (p.1 ∙ ap (λ (e : Refusal). Err e) p.2))
    (subst (λ (w : MachineValue). IsStep old w x (Err e)) same (refused_step old x e (why c))))
