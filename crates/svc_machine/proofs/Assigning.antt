-- What an accepted assignment may do, and what it does.
use Rattle.std.proofs.Common.{ℕ, suc, ◌≡◌, ◌≢◌, ◌+◌, ◌-◌, ◌^◌, ◌<◌, ◌≤◌, true, List, [], ◌∷◌, ◌++◌, map, length, None, refl, sym, ap, ap₂, ◌∙◌, subst, arith}
use Rattle.std.specs.Prelude.{get_or}
use Rattle.std.specs.List.{AllByRecursion}
use Rattle.std.proofs.lemmas.Bool.{eqb-false}
use Rattle.svc_image.specs.Image.{is_entry}
use Rattle.svc_core_laws.specs.State.{State, start}
use Rattle.svc_core_laws.specs.Program.{seq}
use Rattle.svc_core_laws.specs.Words.{program}
use Rattle.svc_bus_laws.specs.LineTable.{LineTable}
use Rattle.svc_bus_laws.specs.BusState.{Agrees}
use Rattle.svc_bus_laws.specs.Steps.{begin}
use Rattle.svc_bus.specs.Value.{BusValue}
use Rattle.svc_bus.specs.State.{bus_state}
use Rattle.svc_bus.specs.Calls.{IsAtWork}
use Rattle.svc_machine_laws.specs.declared.reply.Reply.{Reply}
use Rattle.svc_machine_laws.specs.declared.reply.What.TheVariants as what
use Rattle.svc_machine_laws.specs.PlainMachine.{entry_of, entry_for, unit_of}
use Rattle.svc_machine_laws.specs.WholeMachine as whole
use Rattle.svc_machine_laws.specs.WholeMachine.{Machine, machine_of, seat_entry}
use Rattle.svc_machine_laws.specs.Events.{Assign, plain_event, whole_event}
use Rattle.svc_machine_laws.specs.LineEvents.{line_event}
use Rattle.svc_machine_laws.specs.Guide.{Guide, guide_assigned}
use Rattle.svc_machine_laws.specs.Refusals.{cases_of}
use Rattle.svc_machine_laws.specs.Replies.{whole_reply}
use Rattle.svc_machine_laws.specs.Reached.{IsReached, BeganAtEntry}
use Rattle.svc_machine_laws.specs.Standing.{Standing, standing_after}
use Rattle.svc_machine_laws.proofs.Given.{given}
use Rattle.svc_machine_laws.proofs.Cases.{no_case}
use Rattle.svc_machine_laws.proofs.Places.{not_found}
use Rattle.svc_machine_laws.proofs.Accepted.{CanAssign, can_assign}
use Rattle.svc_machine_laws.proofs.Standings.{step_reached}
use Rattle.svc_machine_laws.proofs.Room.{tasks_few}
use Rattle.svc_machine_laws.proofs.Followed.{assign_guide}
use Rattle.svc_machine_laws.proofs.EditedLists.{map_append_one}
use Rattle.svc_machine_laws.proofs.Steps.{map_runs}
use Rattle.svc_machine_laws.proofs.Answering as answering
use Rattle.svc_machine.specs.declared.seat.Seat.{Seat}
use Rattle.svc_machine.specs.Seats.{plain_of}
use Rattle.svc_machine.specs.Kept.{Parts, Kept, whole_seat}
use Rattle.svc_machine.proofs.Keeping.{IsAccepted, Moved, no_refusal, own_standing, stands, tasks_seen}
use Rattle.svc_machine.proofs.Seats.{count}

last_of : {A : Type 0} (P : A → Type 0) (xs : List A) (y : A) → AllByRecursion P (xs ++ y ∷ []) → P y
last_of P [] y h = h.0
last_of P (x ∷ xs) y h = last_of P xs y h.1

longer : {A : Type 0} (xs : List A) (y : A) → length (xs ++ y ∷ []) ≡ suc (length xs)
longer [] y = refl
longer (x ∷ xs) y = ap suc (longer xs y)

module _ (m : Parts) (kept : Kept m) (unit guess : ℕ) (ok : IsAccepted m (Assign unit guess)) where
  own : Standing
  own = own_standing m kept

  can : CanAssign m.image m.config (own_standing m kept) unit guess
  can = can_assign m.image m.config (own_standing m kept) unit guess (ok (own_standing m kept) (stands m kept))

  after : IsReached m.image m.config (record { plain = plain_event m.image m.plain (Assign unit guess); lines = line_event m.image (machine_of (program m.image) m.plain) kept.lines (Assign unit guess) })
  unfolding standing_after
  after = step_reached m.image (given m.image kept.sound) m.config (own_standing m kept) kept.reached (Assign unit guess) tt (ok (own_standing m kept) (stands m kept))

  -- there are as many seats as tasks
  tasks_count : length (machine_of (program m.image) m.plain).seats ≡ length m.plain.tasks
  tasks_count = answering.count (program m.image) (seq (program m.image) m.plain.commits).memory m.plain.tasks

  -- there is such a unit, and it is idle
  pub known : unit < (bus_state m.bus).caches
  known = let h = can.known in let a = kept.agrees.caches in let b = kept.reached.lines.caches in omega (arith, h, a, b)

  pub idle : IsAtWork (bus_state m.bus) unit → ⊥
  idle work =
      let units : (bus_state m.bus).units ≡ map unit_of m.plain.tasks = kept.agrees.units ∙ kept.reached.lines.units in
      not_found (map unit_of m.plain.tasks) unit work.0 can.idle
      (subst (λ (us : List ℕ). work.0 < length us) units work.1.within)
      (subst (λ (us : List ℕ). get_or us work.0 0 ≡ unit) units work.1.unit_is)

  -- there is room for one more task
  pub tasks_room : length m.plain.tasks < m.config.units
  unfolding plain_event
  tasks_room =
      let few = tasks_few m.image m.config (record { plain = plain_event m.image m.plain (Assign unit guess); lines = line_event m.image (machine_of (program m.image) m.plain) kept.lines (Assign unit guess) }) after in
      let n = longer m.plain.tasks (record { unit = unit; epoch = m.plain.epoch; entry = entry_for (seq (program m.image) m.plain.commits).due (map entry_of m.plain.tasks) guess; turns = 0 }) in
      omega (arith, few, n)

  pub room_active : m.config.units ≤ 16 → length m.guide.active < 16
  room_active few =
      let n = ap (λ (g : Guide). length g.active) kept.guide ∙ count entry_of m.plain.tasks in
      let h = tasks_room in
      omega (arith, n, h, few)

  pub room_seats : length m.seats < m.places
  room_seats =
      let n : length m.seats ≡ length m.plain.tasks = ap (λ (l : List (whole.Seat State)). length l) kept.seats ∙ tasks_count in
      let h = tasks_room in
      let p = kept.places in
      omega (arith, n, h, p)

  -- the task begins at an entry
  entry_same : entry_for m.guide.due m.guide.active guess ≡ entry_for (seq (program m.image) m.plain.commits).due (map entry_of m.plain.tasks) guess
  entry_same = ap (λ (g : Guide). entry_for g.due g.active guess) kept.guide

  pub begins : is_entry m.image (entry_for m.guide.due m.guide.active guess) ≡ true
  unfolding plain_event
  begins =
      subst (λ e. is_entry m.image e ≡ true) (sym entry_same)
      (last_of (BeganAtEntry m.image) m.plain.tasks _ after.entries)

  -- and its epoch is not the last number
  pub epoch_apart : m.plain.epoch ≢ 2 ^ 64 - 1
  epoch_apart =
      let off = no_case (cases_of m.image m.config (machine_of (program m.image) m.plain) kept.lines (Assign unit guess)) (no_refusal m kept (Assign unit guess) ok) 5 in
      eqb-false m.plain.epoch (2 ^ 64 - 1) off

  pub accepted_room : m.plain.accepted < m.config.events
  accepted_room = can.room

  -- the entry of the whole machine's new seat
  entry_is : entry_for m.guide.due m.guide.active guess ≡ entry_for (seq (program m.image) m.plain.commits).due (map seat_entry (machine_of (program m.image) m.plain).seats) guess
  entry_is =
      entry_same
      ∙ ap (λ (l : List ℕ). entry_for (seq (program m.image) m.plain.commits).due l guess)
      (sym (map_runs (program m.image) seat_entry entry_of (λ y. refl) (seq (program m.image) m.plain.commits).memory m.plain.tasks))

  pub assigned : (seats : List Seat) → map whole_seat seats ≡ m.seats → (seat : Seat) → (e : ℕ) → e ≡ entry_for m.guide.due m.guide.active guess
      → whole_seat seat ≡ record { unit = unit; epoch = m.plain.epoch; entry = e; core = start m.image e; waiting = [] }
      → (new : List Seat) → new ≡ seats ++ seat ∷ []
      → (guide : Guide) → guide ≡ guide_assigned guess m.guide
      → (bus : BusValue) → ((t : LineTable) → Agrees (bus_state m.bus) t → Agrees (bus_state bus) (begin t unit))
      → (places : ℕ) → m.places ≤ places
      → Moved m (record m { plain = plain_of m.plain.commits (m.plain.accepted + 1) (m.plain.epoch + 1) new; bus = bus; guide = guide; seats = map whole_seat new; places = places }) (Assign unit guess)
  unfolding whole_event plain_event line_event
  assigned seats same seat e e_is seat_is new new_is guide guide_is bus agrees places more =
      let to_seat : ℕ → whole.Seat State = λ (e : ℕ). record { unit = unit; epoch = m.plain.epoch; entry = e; core = start m.image e; waiting = [] } in
      record {
        image = refl;
        config = refl;
        tasks = tasks_seen new;
        commits = refl;
        accepted = omega arith;
        epoch = omega arith;
        seats =
            ap (map whole_seat) new_is ∙ map_append_one whole_seat seats seat
            ∙ ap₂ {C = List (whole.Seat State)} (λ (l : List (whole.Seat State)) (s : whole.Seat State). l ++ s ∷ []) (same ∙ kept.seats) (seat_is ∙ ap to_seat (e_is ∙ entry_is));
        output = kept.output;
        stopped = kept.stopped;
        guide = guide_is ∙ ap (guide_assigned guess) kept.guide ∙ sym (assign_guide (program m.image) m.image.entries m.plain unit guess);
        places = more;
        room = omega arith;
        lines = agrees;
      }

  pub assign_reply : (seats : List Seat) → map whole_seat seats ≡ m.seats → (n e : ℕ) → n ≡ m.plain.commits + length seats → e ≡ entry_for m.guide.due m.guide.active guess
      → (t : LineTable) → let r : Reply = record { what = what.Assigned (record { 0 = n }) e m.plain.epoch; cut = None } in r ≡ whole_reply m.image (machine_of (program m.image) m.plain) t (Assign unit guess)
  unfolding whole_reply
  assign_reply seats same n e n_is e_is t =
      let counts : length seats ≡ length (machine_of (program m.image) m.plain).seats = sym (count whole_seat seats) ∙ ap (λ (l : List (whole.Seat State)). length l) (same ∙ kept.seats) in
      ap₂ {C = Reply} (λ (n e : ℕ). record { what = what.Assigned (record { 0 = n }) e m.plain.epoch; cut = None }) (n_is ∙ ap (λ k. m.plain.commits + k) counts) (e_is ∙ entry_is)
