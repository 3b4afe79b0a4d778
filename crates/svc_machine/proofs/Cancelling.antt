-- What an accepted cancel may do, and what it does.
use Rattle.std.proofs.Common.{ℕ, suc, ◌≡◌, ◌+◌, ◌^◌, ◌<◌, ◌≤◌, ◌==◌, Bool, false, true, cond, List, [], ◌∷◌, map, take, length, get_or, Some, refl, sym, ap, ◌∙◌, subst, arith}
use Rattle.std.specs.Prelude.{◌&&◌, ltb, option_map, slice_get}
use Rattle.std.specs.List.{position}
use Rattle.std.proofs.lemmas.Option.{same_Some, none-some, get_or_from_slice_get}
use borrow.Author.Tests.{both_ways}
use Rattle.svc_core_laws.specs.State.{State}
use Rattle.svc_core_laws.specs.Program.{seq}
use Rattle.svc_core_laws.specs.Words.{program}
use Rattle.svc_bus_laws.specs.LineTable.{LineTable, unit_at}
use Rattle.svc_bus_laws.specs.BusState.{Agrees}
use Rattle.svc_bus_laws.specs.Refusals.{is_head}
use Rattle.svc_bus_laws.specs.Steps.{squash}
use Rattle.svc_bus.specs.Value.{BusValue}
use Rattle.svc_bus.specs.State.{bus_state}
use Rattle.svc_bus.specs.Calls.{IsAtWork}
use Rattle.svc_machine_laws.specs.declared.reply.Reply.{Reply}
use Rattle.svc_machine_laws.specs.declared.reply.Cut.{Cut}
use Rattle.svc_machine_laws.specs.declared.reply.Cause.TheVariants as cause
use Rattle.svc_machine_laws.specs.declared.reply.What.TheVariants as what
use Rattle.svc_machine_laws.specs.PlainMachine.{unit_of}
use Rattle.svc_machine_laws.specs.WholeMachine as whole
use Rattle.svc_machine_laws.specs.WholeMachine.{Machine, machine_of, seat_unit}
use Rattle.svc_machine_laws.specs.Events.{Cancel, place_in, task_place, seat_place, plain_event, plain_cancel, whole_event, whole_cancel}
use Rattle.svc_machine_laws.specs.LineEvents.{line_event, line_cancel}
use Rattle.svc_machine_laws.specs.Guide.{Guide, guide_of, guide_cut}
use Rattle.svc_machine_laws.specs.Replies.{whole_reply, whole_cancelled, cut_from}
use Rattle.svc_machine_laws.proofs.Places.{found, within}
use Rattle.svc_machine_laws.proofs.Accepted.{CanCancel, can_cancel, seat_places}
use Rattle.svc_machine_laws.proofs.Room.{tasks_few}
use Rattle.svc_machine_laws.proofs.Followed.{cancel_guide}
use Rattle.svc_machine_laws.proofs.EditedLists.{map_take}
use Rattle.svc_machine_laws.proofs.Answering as answering
use Rattle.svc_machine.specs.declared.seat.Seat.{Seat}
use Rattle.svc_machine.specs.Seats.{plain_of}
use Rattle.svc_machine.specs.Kept.{Parts, Kept, whole_seat}
use Rattle.svc_machine.proofs.Keeping.{IsAccepted, Moved, own_standing, stands, reached_with, tasks_seen}
use Rattle.svc_machine.proofs.Seats.{count, place_is}

pub and_off : (b : Bool) → (b && false) ≡ false
and_off true = refl
and_off false = refl

-- a unit whose task is not the first doesn't run the head
pub later_not_head : (units : List ℕ) (unit place : ℕ) → place_in units unit ≡ Some place → (place == 0) ≡ false → is_head units unit ≡ false
later_not_head [] unit place at later = absurd (none-some place at)
later_not_head (x ∷ units) unit place at later = split (x == unit) at
  where
    split : (b : Bool) → cond b (Some 0) (option_map suc (place_in units unit)) ≡ Some place → (ltb 0 (suc (length units)) && b) ≡ false
    split true h = absurd (both_ways (place == 0) later (ap (λ n. n == 0) (sym (same_Some 0 place h))))
    split false h = and_off (ltb 0 (suc (length units)))

module _ (m : Parts) (kept : Kept m) (seats : List Seat) (same : map whole_seat seats ≡ m.seats) (unit : ℕ) where
  -- the place that is found is that of the unit's seat and task
  pub seat_placed : position (λ (s : Seat). s.lease.unit.0 == unit) seats ≡ seat_place (machine_of (program m.image) m.plain) unit
  seat_placed = place_is seats unit ∙ ap (λ (l : List (whole.Seat State)). place_in (map seat_unit l) unit) (same ∙ kept.seats)

  pub task_placed : position (λ (s : Seat). s.lease.unit.0 == unit) seats ≡ task_place m.plain unit
  task_placed = seat_placed ∙ seat_places m.image m.config (own_standing m kept) unit

  module _ (place : ℕ) (at : position (λ (s : Seat). s.lease.unit.0 == unit) seats ≡ Some place) where
    pub task_here : slice_get (map unit_of m.plain.tasks) place ≡ Some unit
    task_here = found (map unit_of m.plain.tasks) unit place (sym task_placed ∙ at)

    pub place_inside : place < length m.plain.tasks
    place_inside =
        let h = within (map unit_of m.plain.tasks) place unit task_here in
        let n = count unit_of m.plain.tasks in
        omega (arith, h, n)

    -- so it is the place in each line table that the bus agrees with
    pub line_place : (t : LineTable) → Agrees (bus_state m.bus) t → (place < length t.units) × (unit_at t place ≡ unit)
    line_place t agrees =
        let units : t.units ≡ map unit_of m.plain.tasks = (reached_with m kept t agrees).lines.units in (
          subst (λ (us : List ℕ). place < length us) (sym units) (within (map unit_of m.plain.tasks) place unit task_here),
          ap (λ (us : List ℕ). get_or us place 0) units ∙ get_or_from_slice_get (map unit_of m.plain.tasks) place unit 0 task_here,
        )

    pub at_work : IsAtWork (bus_state m.bus) unit
    at_work =
        let here = line_place kept.lines kept.agrees in (
          place,
          record {
            within = subst (λ (us : List ℕ). place < length us) (sym kept.agrees.units) here.0;
            unit_is = ap (λ (us : List ℕ). get_or us place 0) kept.agrees.units ∙ here.1;
          },
        )

    -- the numbers of the tasks are small
    pub small_numbers : m.config.units ≤ 16 → m.config.events ≤ 1000000 → (m.plain.commits + place < 2 ^ 64) × (length seats < 2 ^ 32)
    small_numbers units events =
        let few = tasks_few m.image m.config (own_standing m kept) kept.reached in
        let h = place_inside in
        let a = kept.reached.accepted_few in
        let b = kept.reached.commits_few in
        let n : length seats ≡ length m.plain.tasks =
        sym (count whole_seat seats) ∙ ap (λ (l : List (whole.Seat State)). length l) (same ∙ kept.seats)
        ∙ answering.count (program m.image) (seq (program m.image) m.plain.commits).memory m.plain.tasks in
        (omega (arith, few, h, a, b, units, events), omega (arith, few, n, units))

    module _ (ok : IsAccepted m (Cancel unit)) where
      can : CanCancel m.config (own_standing m kept) unit
      can = can_cancel m.image m.config (own_standing m kept) unit (ok (own_standing m kept) (stands m kept))

      pub accepted_room : m.plain.accepted < m.config.events
      accepted_room = can.room

      pub not_head : is_head (bus_state m.bus).units unit ≡ false
      not_head =
          let same_place : place ≡ can.place = same_Some place can.place (sym at ∙ task_placed ∙ can.at) in
          ap (λ (us : List ℕ). is_head us unit) (kept.agrees.units ∙ kept.reached.lines.units)
          ∙ later_not_head (map unit_of m.plain.tasks) unit place (sym task_placed ∙ at) (subst (λ n. (n == 0) ≡ false) (sym same_place) can.later)

      pub cancelled : (new : List Seat) → new ≡ take place seats
          → (guide : Guide) → guide ≡ guide_cut place m.guide
          → (bus : BusValue) → ((t : LineTable) → (p : ℕ) → Agrees (bus_state m.bus) t → p < length t.units → unit_at t p ≡ unit → Agrees (bus_state bus) (squash t p))
          → (places : ℕ) → m.places ≤ places
          → Moved m (record m { plain = plain_of m.plain.commits (m.plain.accepted + 1) m.plain.epoch new; bus = bus; guide = guide; seats = map whole_seat new; places = places }) (Cancel unit)
      unfolding whole_event plain_event line_event
      cancelled new new_is guide guide_is bus agrees places more =
          let spot = sym seat_placed ∙ at in
          let mm : Machine State = machine_of (program m.image) m.plain in
          record {
            image = refl;
            config = refl;
            tasks = tasks_seen new;
            commits = sym (ap (λ o. (whole_cancel mm o).versioned.commits) spot);
            accepted = subst (λ o. m.plain.accepted + 1 ≡ (whole_cancel mm o).accepted) (sym spot) (omega arith);
            epoch = sym (ap (λ o. (whole_cancel mm o).epoch) spot);
            seats = ap (map whole_seat) new_is ∙ map_take whole_seat place seats ∙ ap (take place) (same ∙ kept.seats) ∙ sym (ap (λ o. (whole_cancel mm o).seats) spot);
            output = kept.output ∙ sym (ap (λ o. (whole_cancel mm o).output) spot);
            stopped = kept.stopped ∙ sym (ap (λ o. (whole_cancel mm o).stopped) spot);
            guide = guide_is ∙ ap (guide_cut place) kept.guide ∙ sym (cancel_guide (program m.image) m.image.entries m.plain place)
                ∙ sym (ap (λ o. guide_of (program m.image) m.image.entries (plain_cancel m.plain o)) (sym task_placed ∙ at));
            places = more;
            room = omega arith;
            lines = λ t h. let here = line_place t h in subst (λ o. Agrees (bus_state bus) (line_cancel t o)) (sym spot) (agrees t place h here.0 here.1);
          }

      pub cancel_reply : (cut : Cut) (n : ℕ) → n ≡ length seats → cut ≡ cut_from cause.Cancelled m.plain.commits n place
          → (t : LineTable) → let r : Reply = record { what = what.Cancelled; cut = Some cut } in r ≡ whole_reply m.image (machine_of (program m.image) m.plain) t (Cancel unit)
      unfolding whole_reply
      cancel_reply cut n n_is cut_is t =
          let counts : length seats ≡ length (machine_of (program m.image) m.plain).seats = sym (count whole_seat seats) ∙ ap (λ (l : List (whole.Seat State)). length l) (same ∙ kept.seats) in
          ap {B = Reply} (λ (k : Cut). record { what = what.Cancelled; cut = Some k }) (cut_is ∙ ap (λ k. cut_from cause.Cancelled m.plain.commits k place) (n_is ∙ counts))
          ∙ sym (ap (whole_cancelled (machine_of (program m.image) m.plain)) (sym seat_placed ∙ at))
