-- A burst that is taken over.
use Rattle.std.proofs.Common.{ℕ, suc, ◌≡◌, ◌==◌, ◌+◌, ◌-◌, ◌^◌, ◌<◌, ◌≤◌, Bool, false, cond, List, [], ◌∷◌, map, take, length, Option, Some, None, true, refl, sym, ap, ap₂, ◌∙◌, subst, option_map, slice_get, slice_set, get_or, is_some, add-one, arith}
use Rattle.std.proofs.lemmas.List.{length-take-le, length-set, map-set, set-get_or}
use Rattle.std.proofs.lemmas.Option.{same_Some, slice_get-map, get_or_from_slice_get}
use Rattle.std.specs.Option.{option_or}
use Rattle.std.specs.List.{position}
use Rattle.svc_base.specs.declared.refusal.Refusal.{Refusal}
use Rattle.svc_base.specs.declared.refusal.Refusal.TheVariants as refusal
use Rattle.svc_image.specs.Image.{Image}
use Rattle.svc_core_laws.specs.declared.ask.Ask.{Ask}
use Rattle.svc_core_laws.specs.State.{State}
use Rattle.svc_core_laws.specs.Program.{Memory, Want, Program, Run, output, seq, locals, are_local, part}
use Rattle.svc_core_laws.specs.Words.{program}
use Rattle.svc_core_laws.specs.Bursts.{Advance, Follows}
use Rattle.svc_core_laws.proofs.Going.{words_counted}
use Rattle.svc_bus_laws.specs.Versioned.{Versioned}
use Rattle.svc_bus_laws.specs.LineTable.{LineTable}
use Rattle.svc_bus_laws.specs.BusState.{BusState, Agrees}
use Rattle.svc_bus_laws.specs.Steps.{squash}
use Rattle.svc_bus_laws.proofs.RefusalProofs.{same_full}
use Rattle.svc_bus.specs.State.{bus_state}
use Rattle.svc_machine_laws.specs.PlainMachine as plain
use Rattle.svc_machine_laws.specs.PlainMachine.{Plain, Task, Running, running, run_of, memory_at, entry_of, unit_of}
use Rattle.svc_machine_laws.specs.WholeMachine as whole
use Rattle.svc_machine_laws.specs.WholeMachine.{Machine, machine_of, seat_entry, seat_of, seat_unit, at_core}
use Rattle.svc_machine_laws.specs.Events.{Submit, want_of, asked_want, place_in, seat_place, plain_submit, plain_event, whole_submit, whole_event}
use Rattle.svc_machine_laws.specs.LineEvents.{line_ask, line_check, line_submit, line_event}
use Rattle.svc_machine_laws.specs.Blame.{tasks_cut}
use Rattle.svc_machine_laws.specs.Guide.{Guide, guide_of, guide_cut}
use Rattle.svc_machine_laws.specs.Reached.{IsReached}
use Rattle.svc_machine_laws.specs.Replies.{reply_after_check, cut_from, whole_asked, whole_submitted, whole_reply}
use Rattle.svc_machine_laws.specs.declared.reply.Cause.TheVariants as cause
use Rattle.svc_machine_laws.specs.declared.reply.Cut.{Cut}
use Rattle.svc_machine_laws.specs.declared.reply.Reply.{Reply}
use Rattle.svc_machine_laws.specs.Refusals.{asked_word, full_set}
use Rattle.svc_machine_laws.specs.MachineLaws.{IsWithin, Taken}
use Rattle.svc_machine_laws.specs.Standing.{Standing, refusal_of}
use Rattle.svc_machine.proofs.Seats.{place_is}
use Rattle.svc_machine_laws.proofs.Accepted.{CanSubmit, can_submit, seat_places, seat_here}
use Rattle.svc_machine_laws.proofs.Answering.{count}
use Rattle.svc_machine_laws.proofs.Anew.{runs_at}
use Rattle.svc_machine_laws.proofs.Given.{given}
use Rattle.svc_machine_laws.proofs.Checks.{same_check}
use Rattle.svc_machine_laws.proofs.EditedLists.{map_take}
use Rattle.svc_machine_laws.proofs.MachineEvents.{taken}
use Rattle.svc_machine_laws.proofs.Room.{tasks_few}
use Rattle.svc_machine_laws.proofs.Standings.{after_submit}
use Rattle.svc_machine_laws.proofs.Steps.{map_runs}
use Rattle.svc_machine_laws.proofs.Submits.{submit_step}
use Rattle.svc_machine_laws.proofs.Parts.{part_locals}
use Rattle.svc_machine_laws.proofs.Places.{found, within}
use Rattle.svc_machine_laws.proofs.Followed.{map_count, submit_guide}
use Rattle.svc_machine_laws.proofs.Lines.{rows_units}
use Rattle.svc_machine_laws.proofs.Wants.{asked_within}
use Rattle.svc_bus.specs.Calls.{RunsAt}
use Rattle.svc_machine.specs.Admitted.{IsAdmitted}
use Rattle.svc_machine.specs.Asked.{IsDone, refused_for}
use Rattle.svc_machine.specs.declared.seat.Seat as declared
use Rattle.svc_machine.specs.Value.{MachineValue, StandsAt}
use Rattle.svc_machine.specs.Kept.{Parts, Kept, machine_value, whole_seat}
use Rattle.svc_machine.specs.Seats.{is_misled}
use Rattle.svc_machine.proofs.Keeping.{IsAccepted, Moved, own_standing, stands, reached_with, seat_task}
use Rattle.svc_machine.proofs.EditedSeats.{IsTurn, few_cut, seats_done, reply_done, commits_done, accepted_done, others_done}

-- the words that a task has output are those that its core has counted, also after local turns
waiting_counted : (img : Image) (t : Task) (m : Memory) (local : ℕ) (last : State) (x : Running State) → run_of (program img) m t ≡ x
    → are_local (program img) local x.run.core ≡ true → locals (program img) local x.run.core ≡ last → length (output x.run.log) ≡ last.emitted
waiting_counted img t m local last x is own end =
    let r : Run State = part (program img) t.entry t.turns m in
    let same : r ≡ x.run = ap (λ (y : Running State). y.run) is in
    let on : are_local (program img) local r.core ≡ true = subst (λ (y : Run State). are_local (program img) local y.core ≡ true) (sym same) own in
    let more = part_locals (program img) t.entry local t.turns m on in
    ap (λ (y : Run State). length (output y.log)) (sym same)
    ∙ ap (λ (y : Run State). length (output y.log)) (sym more)
    ∙ sym (words_counted img t.entry (local + t.turns) m)
    ∙ ap (λ (y : Run State). y.core.emitted) more
    ∙ ap (λ (y : Run State). (locals (program img) local y.core).emitted) same
    ∙ ap (λ (c : State). c.emitted) end

-- why the bus refuses it, by any line table
same_room : (b : BusState) (t : LineTable) (unit : ℕ) (o : Option ℕ) → Agrees b t → refused_for b unit o ≡ option_map (λ named. refusal.SetFull (record { 0 = named })) (full_set t unit o)
same_room b t unit None agrees = refl
same_room b t unit (Some a) agrees = ap (option_map (λ named. refusal.SetFull (record { 0 = named }))) (same_full b t unit a agrees)

-- ---- a check, by whether it cuts

unchecked : {X : Type 0} (f : Machine State → X) (c : Bool) (n : ℕ) (m : Machine State) → f (whole.keep n m) ≡ f m → f (cond c (whole.keep n m) m) ≡ f m
unchecked f true n m same = same
unchecked f false n m same = refl

seats_checked : (c : Bool) (n : ℕ) (m : Machine State) → cond c (take n m.seats) m.seats ≡ (cond c (whole.keep n m) m).seats
seats_checked true n m = refl
seats_checked false n m = refl

lines_checked : (c : Bool) (t : LineTable) (place : ℕ) → cond c (squash t (suc place)) t ≡ line_check c t place
lines_checked true t place = refl
lines_checked false t place = refl

guide_checked : (p : Program State) (entries : List ℕ) (c : Bool) (n : ℕ) (s : Plain) → cond c (guide_cut n (guide_of p entries s)) (guide_of p entries s) ≡ guide_of p entries (cond c (plain.keep n s) s)
guide_checked p entries true n s = ap {B = Guide} (λ l. record (guide_of p entries s) { active = l }) (sym (map_take entry_of n s.tasks))
guide_checked p entries false n s = refl

reply_checked : (c : Bool) (k n place : ℕ) (r : Reply) → let o : Reply = record { what = r.what; cut = option_or (cond c (Some (cut_from cause.WrongGuess k n (suc place))) None) r.cut } in o ≡ reply_after_check c k n place r
reply_checked true k n place r = refl
reply_checked false k n place r = refl

-- a unit's task runs where its seat is
module _ (m : Parts) (kept : Kept m) (unit place : ℕ) (at : seat_place (machine_of (program m.image) m.plain) unit ≡ Some place) where
  task_at : slice_get (map unit_of m.plain.tasks) place ≡ Some unit
  task_at = found (map unit_of m.plain.tasks) unit place (sym (seat_places m.image m.config (own_standing m kept) unit) ∙ at)

  -- in every line table that the bus agrees with
  runs_there : (t : LineTable) → Agrees (bus_state m.bus) t → RunsAt (bus_state m.bus) unit t place
  runs_there t agrees =
      let units = (reached_with m kept t agrees).lines.units in
      let at_unit : slice_get t.units place ≡ Some unit = ap (λ us. slice_get us place) units ∙ task_at in
      record { agrees = agrees; within = within t.units place unit at_unit; unit_is = get_or_from_slice_get t.units place unit 0 at_unit }

module _ (m : Parts) (kept : Kept m) (b : Advance) (ok : IsAccepted m (Submit b)) where
  abbrev p : Program State
  p = program m.image

  abbrev before : Machine State
  before = machine_of p m.plain

  abbrev own : Standing
  own = own_standing m kept

  pub can : CanSubmit m.image m.config own b
  can = can_submit m.image m.config own b (ok own (stands m kept))

  -- the unit has a task
  pub has_place : seat_place before b.unit.0 ≡ Some can.place
  has_place = seat_places m.image m.config own b.unit.0 ∙ can.at

  pub is_taken : Follows b → Taken p m.plain can.place b.local b.end (asked_want m.image b)
  is_taken follows = taken m.image (given m.image kept.sound) m.config own b follows can

  module _ (place : ℕ) (at : seat_place before b.unit.0 ≡ Some place) where
    pub same_place : can.place ≡ place
    same_place = same_Some can.place place (sym has_place ∙ at)

    -- its seat
    pub here : slice_get before.seats place ≡ Some (seat_of can.run)
    here = ap (slice_get before.seats) (sym same_place) ∙ seat_here m.image m.config own can.place ∙ ap (option_map seat_of) can.here

    -- the words that wait in its seat are counted
    pub waiting : Follows b → length (seat_of can.run).waiting ≡ b.end.emitted
    waiting follows =
        of (slice_get m.plain.tasks can.place) refl (sym (runs_at p (seq p m.plain.commits).memory m.plain.tasks can.place) ∙ can.here)
      where
        of : (o : Option Task) → slice_get m.plain.tasks can.place ≡ o → option_map (run_of p (memory_at p (seq p m.plain.commits).memory m.plain.tasks can.place)) o ≡ Some can.run → length (output can.run.run.log) ≡ b.end.emitted
        of None e h = cc
        of (Some t) e h =
            let tk = is_taken follows in
            let same : tk.run ≡ can.run = same_Some tk.run can.run (sym tk.at ∙ can.here) in
            waiting_counted m.image t (memory_at p (seq p m.plain.commits).memory m.plain.tasks can.place) b.local b.end can.run (same_Some _ can.run h)
            (subst (λ (x : Running State). are_local p b.local x.run.core ≡ true) same tk.own)
            (subst (λ (x : Running State). locals p b.local x.run.core ≡ b.end) same tk.end_is)

    -- what the asked turn needs
    pub is_turn : (t : LineTable) → Agrees (bus_state m.bus) t → IsTurn before t place (seat_of can.run) (asked_want m.image b)
    is_turn t agrees =
        let r = reached_with m kept t agrees in
        record {
          sound = agrees.sound;
          same_map = r.lines.same_map;
          within = (runs_there m kept b.unit.0 place at t agrees).within;
          as_many = count p (seq p m.plain.commits).memory m.plain.tasks
              ∙ sym (map_count unit_of m.plain.tasks)
              ∙ sym (ap length r.lines.units)
              ∙ sym (rows_units t)
              ∙ ap (λ (v : Versioned). length v.rows) r.lines.same_map;
          at = here;
          known = λ w e. subst (λ n. IsWithin n w) (sym r.lines.words) (asked_within m.image b.end b.ask w e);
        }

    abbrev want : Option (Want State)
    want = asked_want m.image b

    -- the machines after the turns, before the guess is checked
    abbrev turned : Machine State
    turned = whole.submit before place b.end want

    abbrev plain_turned : Plain
    plain_turned = plain.submit p m.plain place b.local (is_some want)

    turned_is : Follows b → machine_of p plain_turned ≡ turned
    turned_is follows =
        subst (λ q. machine_of p (plain.submit p m.plain q b.local (is_some want)) ≡ whole.submit before q b.end want) same_place
        (submit_step p m.plain can.place b.local b.end want (is_taken follows))

    turned_reached : Follows b → IsReached m.image m.config (record { plain = plain_turned; lines = line_ask want kept.lines place })
    turned_reached follows =
        subst (λ q. IsReached m.image m.config (record { plain = plain.submit p m.plain q b.local (is_some want); lines = line_ask want kept.lines q })) same_place
        (after_submit m.image (given m.image kept.sound) m.config own kept.reached b follows can)

    whole_is : whole_event m.image before (Submit b) ≡ whole.check p turned place
    unfolding whole_event
    whole_is = ap (λ o. whole_submit m.image before o b) at

    plain_is : plain_event m.image m.plain (Submit b) ≡ plain.check p plain_turned place
    unfolding plain_event
    plain_is = ap (λ o. plain_submit m.image m.plain o b) (sym (seat_places m.image m.config own b.unit.0) ∙ at)

    -- the numbers of the tasks are small
    pub small_numbers : m.config.units ≤ 16 → m.config.events ≤ 1000000 → (m.plain.commits + place + 1 < 2 ^ 64) × (length m.seats < 2 ^ 32)
    small_numbers units events =
        let few = tasks_few m.image m.config own kept.reached in
        let inside = within (map unit_of m.plain.tasks) place b.unit.0 (task_at m kept b.unit.0 place at) in
        let tasks = map_count unit_of m.plain.tasks in
        let a = kept.reached.accepted_few in
        let k = kept.reached.commits_few in
        let n : length m.seats ≡ length m.plain.tasks = ap length kept.seats ∙ count p (seq p m.plain.commits).memory m.plain.tasks in
        (omega (arith, few, inside, tasks, a, k, units, events), omega (arith, few, n, units))

    module _ (seat : whole.Seat State) (bus : BusState) (reply : Reply) (done : (t : LineTable) → Agrees (bus_state m.bus) t → IsDone m.image (asked_want m.image b) t place (at_core b.end (seat_of can.run)) seat bus reply) where
      -- the asked turn, over the invariant's line table
      abbrev turn : IsTurn before kept.lines place (seat_of can.run) (asked_want m.image b)
      turn = is_turn kept.lines kept.agrees

      abbrev left : ℕ
      left = length m.seats - tasks_cut reply.cut

      pub cut_few : tasks_cut reply.cut ≤ length m.seats
      cut_few =
          let few = few_cut m.image before kept.lines place b.end (seat_of can.run) seat bus reply want turn (done kept.lines kept.agrees) in
          let same = ap length kept.seats in
          omega (arith, few, same)

      seats_turned : take left (slice_set m.seats place seat) ≡ turned.seats
      seats_turned =
          ap (λ (l : List (whole.Seat State)). take (length l - tasks_cut reply.cut) (slice_set l place seat)) kept.seats
          ∙ seats_done m.image before kept.lines place b.end (seat_of can.run) seat bus reply want turn (done kept.lines kept.agrees)

      -- as many tasks are left
      tasks_turned : Follows b → length plain_turned.tasks ≡ left
      tasks_turned follows =
          let front : length (take left (slice_set m.seats place seat)) ≡ left =
          length-take-le left (slice_set m.seats place seat) (let e = length-set m.seats place seat in omega (arith, e)) in
          sym (count p (seq p plain_turned.commits).memory plain_turned.tasks)
          ∙ ap (λ (n : Machine State). length n.seats) (turned_is follows)
          ∙ sym (ap length seats_turned)
          ∙ front

      -- ---- the check of the guess, on the seats and the guide that the turn has left

      module _ (follows : Follows b) (held : List declared.Seat) (are : map whole_seat held ≡ take left (slice_set m.seats place seat)) (guided : Guide) (guide_is : guided ≡ guide_cut left m.guide) where
        abbrev misled : Bool
        misled = is_misled (map whole_seat held) place

        seats_are : map whole_seat held ≡ (machine_of p plain_turned).seats
        seats_are = are ∙ seats_turned ∙ ap (λ (n : Machine State). n.seats) (sym (turned_is follows))

        guide_turned : guided ≡ guide_of p m.image.entries plain_turned
        guide_turned = guide_is ∙ ap₂ guide_cut (sym (tasks_turned follows)) kept.guide ∙ sym (submit_guide p m.image.entries m.plain place b.local (is_some want))

        -- what it asks for
        pub lined : guided.active ≡ map seat_entry (map whole_seat held)
        lined =
            ap (λ (g : Guide). g.active) guide_turned
            ∙ sym (map_runs p seat_entry entry_of (λ y. refl) (seq p plain_turned.commits).memory plain_turned.tasks)
            ∙ ap (map seat_entry) (sym seats_are)

        pub has_units : (t : LineTable) × Agrees bus t × (t.units ≡ map seat_unit (map whole_seat held))
        has_units = (
          line_ask want kept.lines place,
          (done kept.lines kept.agrees).table,
          (turned_reached follows).lines.units
              ∙ sym (map_runs p seat_unit unit_of (λ y. refl) (seq p plain_turned.commits).memory plain_turned.tasks)
              ∙ ap (map seat_unit) (sym seats_are),
        )

        whole_misled : misled ≡ whole.is_misled p turned.seats place
        whole_misled = ap (λ l. is_misled l place) (are ∙ seats_turned)

        plain_misled : misled ≡ plain.is_misled p plain_turned place
        plain_misled = ap (λ l. is_misled l place) seats_are ∙ same_check p plain_turned place

        -- the fields after it
        pub record Submitted (new : Parts) : Type 0 where
          pub image : new.image ≡ m.image
          pub config : new.config ≡ m.config
          pub tasks : new.plain.tasks ≡ map seat_task new.seats
          pub commits : new.plain.commits ≡ m.plain.commits
          pub accepted : new.plain.accepted ≡ m.plain.accepted + 1
          pub epoch : new.plain.epoch ≡ m.plain.epoch
          pub lines : (t : LineTable) → Agrees bus t → Agrees (bus_state new.bus) (cond misled (squash t (suc place)) t)
          pub guide : new.guide ≡ cond misled (guide_cut (suc place) guided) guided
          pub seats : new.seats ≡ cond misled (take (suc place) (map whole_seat held)) (map whole_seat held)
          pub places : m.places ≤ new.places
          pub output : new.output ≡ m.output
          pub room : m.room ≤ new.room
          pub stopped : new.stopped ≡ m.stopped

        -- what neither the turn nor the check changes
        others_kept : {X : Type 0} (f : Machine State → X) → ((v : Versioned) (l : List (whole.Seat State)) → f before ≡ f (whole.with_seats before v l)) → f (whole.keep (suc place) turned) ≡ f turned → f before ≡ f (whole_event m.image before (Submit b))
        others_kept f same checked_same = others_done f before place b.end want same ∙ sym (unchecked f (whole.is_misled p turned.seats place) (suc place) turned checked_same) ∙ ap f (sym whole_is)

        lines_after : (new : Parts) → Submitted new → (t : LineTable) → Agrees (bus_state m.bus) t → Agrees (bus_state new.bus) (line_event m.image before t (Submit b))
        unfolding line_event
        lines_after new s t agrees =
            subst (λ o. Agrees (bus_state new.bus) (line_submit p before b.end want t o)) (sym at)
            (subst (λ u. Agrees (bus_state new.bus) u) (ap (λ c. cond c (squash (line_ask want t place) (suc place)) (line_ask want t place)) whole_misled ∙ lines_checked (whole.is_misled p turned.seats place) (line_ask want t place) place)
            (s.lines (line_ask want t place) (done t agrees).table))

        pub moved_by : (new : Parts) → Submitted new → Moved m new (Submit b)
        moved_by new s = record {
          image = s.image;
          config = s.config;
          tasks = s.tasks;
          commits = s.commits ∙ commits_done before place b.end want ∙ sym (unchecked (λ n. n.versioned.commits) (whole.is_misled p turned.seats place) (suc place) turned refl) ∙ ap (λ (n : Machine State). n.versioned.commits) (sym whole_is);
          accepted =
              s.accepted ∙ add-one m.plain.accepted ∙ accepted_done before place b.end want
              ∙ sym (unchecked (λ n. n.accepted) (whole.is_misled p turned.seats place) (suc place) turned refl) ∙ ap (λ (n : Machine State). n.accepted) (sym whole_is);
          epoch = s.epoch ∙ others_kept (λ n. n.epoch) (λ v l. refl) refl;
          seats =
              s.seats ∙ ap (λ l. cond (is_misled l place) (take (suc place) l) l) (are ∙ seats_turned)
              ∙ seats_checked (whole.is_misled p turned.seats place) (suc place) turned ∙ ap (λ (n : Machine State). n.seats) (sym whole_is);
          output = s.output ∙ kept.output ∙ others_kept (λ n. n.output) (λ v l. refl) refl;
          stopped = s.stopped ∙ kept.stopped ∙ others_kept (λ n. n.stopped) (λ v l. refl) refl;
          guide =
              s.guide ∙ ap₂ (λ c g. cond c (guide_cut (suc place) g) g) plain_misled guide_turned
              ∙ guide_checked p m.image.entries (plain.is_misled p plain_turned place) (suc place) plain_turned
              ∙ ap (guide_of p m.image.entries) (sym plain_is);
          places = s.places;
          room = s.room;
          lines = lines_after new s;
        }

        pub replied_by : (count : ℕ) → count ≡ length m.seats → (wrong : Option Cut) → wrong ≡ cond misled (Some (cut_from cause.WrongGuess m.plain.commits count (suc place))) None
            → (t : LineTable) → Agrees (bus_state m.bus) t → let r : Reply = record { what = reply.what; cut = option_or wrong reply.cut } in r ≡ whole_reply m.image before t (Submit b)
        unfolding whole_reply
        replied_by count count_is wrong wrong_is t agrees =
            let of : Option Cut → Reply → Reply = λ o r. record { what = r.what; cut = option_or o r.cut } in
            ap₂ of (wrong_is ∙ ap₂ (λ c n. cond c (Some (cut_from cause.WrongGuess m.plain.commits n (suc place))) None) whole_misled (count_is ∙ ap length kept.seats))
            (reply_done m.image before t place b.end (seat_of can.run) seat bus reply want (is_turn t agrees) (done t agrees))
            ∙ reply_checked (whole.is_misled p turned.seats place) m.plain.commits (length before.seats) place (whole_asked p before t place want)
            ∙ sym (ap (λ o. whole_submitted p before t o b.end want) at)

-- ---- from the machine's own seats

pub admitted_as : (b : Advance) (v w : MachineValue) → v ≡ w → IsAdmitted w b → IsAdmitted v b
admitted_as b v w same h = subst (λ (u : MachineValue). IsAdmitted u b) (sym same) h

-- as many seats are left of those with the new one in its place
pub seats_left : (items new : List declared.Seat) (place left n : ℕ) (seat : declared.Seat) → new ≡ take left (slice_set items place seat) → left ≡ n
    → map whole_seat new ≡ take n (slice_set (map whole_seat items) place (whole_seat seat))
seats_left items new place left n seat new_is left_is =
    ap (map whole_seat) new_is ∙ map_take whole_seat left (slice_set items place seat) ∙ ap₂ take left_is (map-set whole_seat items place seat)

-- the seat that is borrowed there
seat_there : {X : Type 0} (f : declared.Seat → X) (items : List declared.Seat) (place : ℕ) (y : declared.Seat) (x : X) → y ≡ get_or items place y → slice_get (map f items) place ≡ Some x → f y ≡ x
seat_there f items place y x is at = of (slice_get items place) refl (sym (slice_get-map f items place) ∙ at)
  where
    of : (o : Option declared.Seat) → slice_get items place ≡ o → option_map f o ≡ Some x → f y ≡ x
    of None e h = cc
    of (Some z) e h = ap f (is ∙ get_or_from_slice_get items place z y e) ∙ same_Some (f z) x h

-- which is put back as it was
pub seats_back : (items : List declared.Seat) (place : ℕ) (y z : declared.Seat) → z ≡ y → y ≡ get_or items place y → slice_set items place z ≡ items
seats_back items place y z back is = ap (slice_set items place) (back ∙ is) ∙ set-get_or items place y

units_seen : (items : List declared.Seat) → map seat_unit (map whole_seat items) ≡ map (λ (s : declared.Seat). s.lease.unit.0) items
units_seen [] = refl
units_seen (x ∷ items) = ap {B = List ℕ} (λ us. x.lease.unit.0 ∷ us) (units_seen items)

module _ (m : Parts) (kept : Kept m) (b : Advance) (items : List declared.Seat) (same : map whole_seat items ≡ m.seats) where
  -- the place of the unit's task is found
  pub place_found : position (λ (s : declared.Seat). s.lease.unit.0 == b.unit.0) items ≡ seat_place (machine_of (program m.image) m.plain) b.unit.0
  place_found = place_is items b.unit.0 ∙ ap (λ (l : List (whole.Seat State)). place_in (map seat_unit l) b.unit.0) (same ∙ kept.seats)

  module _ (place : ℕ) (at_items : position (λ (s : declared.Seat). s.lease.unit.0 == b.unit.0) items ≡ Some place) where
    pub at_place : seat_place (machine_of (program m.image) m.plain) b.unit.0 ≡ Some place
    at_place = sym place_found ∙ at_items

    module _ (y : declared.Seat) (is : y ≡ get_or items place y) where
      its_unit : y.lease.unit.0 ≡ b.unit.0
      its_unit =
          seat_there (λ (s : declared.Seat). s.lease.unit.0) items place y b.unit.0 is
          (ap (λ us. slice_get us place) (sym (units_seen items)) ∙ found (map seat_unit (map whole_seat items)) b.unit.0 place (sym (place_is items b.unit.0) ∙ at_items))

      pub its_task_runs : (t : LineTable) → Agrees (bus_state m.bus) t → RunsAt (bus_state m.bus) y.lease.unit.0 t place
      its_task_runs t agrees = subst (λ u. RunsAt (bus_state m.bus) u t place) (sym its_unit) (runs_there m kept b.unit.0 place at_place t agrees)

      -- why the bus refuses what it asks is why the burst is refused
      module _ (admitted : IsAdmitted (machine_value m) b) (a : Ask) (asks : a ≡ b.ask) where
        pub refused_as : (o : Option Refusal) → o ≡ refused_for (bus_state m.bus) y.lease.unit.0 (asked_word m.image a)
            → (s : Standing) → StandsAt (machine_value m) s → refusal_of m.image m.config s (Submit b) ≡ o
        refused_as o is_o s at =
            admitted s at
            ∙ sym (same_room (bus_state m.bus) s.lines b.unit.0 (asked_word m.image b.ask) at.lines)
            ∙ sym (is_o ∙ ap₂ (λ u k. refused_for (bus_state m.bus) u (asked_word m.image k)) its_unit asks)

        -- one that asks for no word isn't refused
        pub wordless : asked_word m.image a ≡ None → IsAccepted m (Submit b)
        wordless none = refused_as None (sym (ap (refused_for (bus_state m.bus) y.lease.unit.0) none))

      module _ (ok : IsAccepted m (Submit b)) where
        seat_is : whole_seat y ≡ seat_of (can m kept b ok).run
        seat_is = seat_there whole_seat items place y (seat_of (can m kept b ok).run) is (ap (λ (l : List (whole.Seat State)). slice_get l place) (same ∙ kept.seats) ∙ here m kept b ok place at_place)

        pub its_words : Follows b → (core : State) → core ≡ b.end → length y.waiting.items ≡ core.emitted
        its_words follows core end = ap (λ (s : whole.Seat State). length s.waiting) seat_is ∙ waiting m kept b ok place at_place follows ∙ ap (λ (s : State). s.emitted) (sym end)

        pub its_turn : (core : State) (a : Ask) → core ≡ b.end → a ≡ b.ask → (seat : whole.Seat State) (bus : BusState) (reply : Reply)
            → ((t : LineTable) (q : ℕ) → RunsAt (bus_state m.bus) y.lease.unit.0 t q → IsDone m.image (want_of m.image core a) t q (at_core core (whole_seat y)) seat bus reply)
            → (t : LineTable) → Agrees (bus_state m.bus) t → IsDone m.image (asked_want m.image b) t place (at_core b.end (seat_of (can m kept b ok).run)) seat bus reply
        its_turn core a end asks seat bus reply done t agrees =
            let P : State → Ask → whole.Seat State → Type 0 = λ c k s. IsDone m.image (want_of m.image c k) t place (at_core c s) seat bus reply in
            subst (λ c. P c b.ask (seat_of (can m kept b ok).run)) end
            (subst (λ k. P core k (seat_of (can m kept b ok).run)) asks
            (subst (λ s. P core a s) seat_is (done t place (its_task_runs t agrees))))
