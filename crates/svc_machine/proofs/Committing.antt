-- What an accepted commit may do, and what it does.
use Rattle.std.proofs.Common.{ℕ, suc, ◌≡◌, ◌+◌, ◌^◌, ◌<◌, ◌≤◌, Bool, false, true, cond, List, [], ◌∷◌, ◌++◌, map, take, drop, length, get_or, Option, None, Some, refl, sym, ap, ap₂, ◌∙◌, subst, arith}
use Rattle.std.specs.Prelude.{slice_get, option_map, option_and_then}
use Rattle.std.proofs.lemmas.Option.{same_Some, none-some}
use Rattle.svc_core_laws.specs.declared.end.End.{End}
use Rattle.svc_core_laws.specs.State.{State}
use Rattle.svc_core_laws.specs.Program.{Program, seq, output, stopped_after}
use Rattle.svc_core_laws.specs.Words.{program}
use Rattle.svc_bus_laws.specs.LineTable.{LineTable}
use Rattle.svc_bus_laws.specs.BusState.{Agrees}
use Rattle.svc_bus_laws.specs.Versioned.{Versioned}
use Rattle.svc_bus_laws.specs.Steps as steps
use Rattle.svc_bus_laws.specs.Steps.{squash}
use Rattle.svc_bus.specs.Value.{BusValue}
use Rattle.svc_bus.specs.State.{bus_state}
use Rattle.svc_machine_laws.specs.declared.reply.Reply.{Reply}
use Rattle.svc_machine_laws.specs.declared.reply.Cut.{Cut}
use Rattle.svc_machine_laws.specs.declared.reply.Cause.TheVariants as cause
use Rattle.svc_machine_laws.specs.declared.reply.What.TheVariants as what
use Rattle.svc_machine_laws.specs.PlainMachine.{Task, Plain, Running, runs_of, running, entry_of, unit_of, stays, commit_tasks, cuts_next}
use Rattle.svc_machine_laws.specs.PlainMachine as plain
use Rattle.svc_machine_laws.specs.WholeMachine as whole
use Rattle.svc_machine_laws.specs.WholeMachine.{Machine, machine_of, seat_of, seat_entry, seat_unit, commit_seats}
use Rattle.svc_machine_laws.specs.MachineLaws.{HasEnded}
use Rattle.svc_machine_laws.specs.Events.{Commit, plain_event, whole_event}
use Rattle.svc_machine_laws.specs.LineEvents.{line_event, line_commit, line_settle}
use Rattle.svc_machine_laws.specs.Guide.{Guide, guide_committed, guide_settled, guide_cut}
use Rattle.svc_machine_laws.specs.Replies.{whole_reply, whole_committed, reply_to_commit, cut_from}
use Rattle.svc_machine_laws.specs.Reached.{words_waiting}
use Rattle.svc_machine_laws.proofs.Given.{given}
use Rattle.svc_machine_laws.proofs.Accepted.{CanCommit, can_commit, seat_here}
use Rattle.svc_machine_laws.proofs.MachineEvents.{head_ended}
use Rattle.svc_machine_laws.proofs.Steps.{commit_step, map_runs}
use Rattle.svc_machine_laws.proofs.Room.{tasks_few}
use Rattle.svc_machine_laws.proofs.Followed.{commit_guide}
use Rattle.svc_machine_laws.proofs.Answering as answering
use Rattle.svc_machine.specs.declared.seat.Seat.{Seat}
use Rattle.svc_machine.specs.Seats.{plain_of, head_end, seat_end}
use Rattle.svc_machine.specs.Kept.{Parts, Kept, whole_seat}
use Rattle.svc_machine.proofs.Keeping.{IsAccepted, Moved, own_standing, stands, reached_with, tasks_seen}
use Rattle.svc_machine.proofs.Seats.{count}
use Rattle.svc_machine.proofs.Settling.{units_in, entries_in, settled_lines, settled_seats, settled_cut}

-- the head and the others
pub record HasHead (seats : List Seat) (end : End) : Type 0 where
  pub head : Seat
  pub others : List Seat
  pub are : seats ≡ head ∷ others
  pub ended : head.lease.core.done ≡ Some end

pub head_of : (seats : List Seat) (end : End) → head_end (map whole_seat seats) ≡ Some end → HasHead seats end
head_of [] end h = absurd (none-some end h)
head_of (x ∷ seats) end h = record { head = x; others = seats; are = refl; ended = h }

commit_one : (p : Program State) (s : Plain) (ts : List Task) (x : Running State) → slice_get (runs_of p (seq p s.commits).memory ts) 0 ≡ Some x → (commit_tasks p s ts).commits ≡ suc s.commits
commit_one p s [] x h = absurd (none-some x h)
commit_one p s (t ∷ ts) x h = refl

first_waits : (runs : List (Running State)) (x : Running State) → slice_get runs 0 ≡ Some x → length (output x.run.log) ≤ words_waiting runs
first_waits [] x h = absurd (none-some x h)
first_waits (y ∷ runs) x h = let e : length (output y.run.log) ≡ length (output x.run.log) = ap (λ (r : Running State). length (output r.run.log)) (same_Some y x h) in omega (arith, e)

settled_active : (end : End) (g : Guide) (e : ℕ) (rest : List ℕ) → g.active ≡ e ∷ rest → 0 < length (guide_settled end g).active
settled_active end g e rest are = split (cuts_next end (drop 1 g.active))
  where
    split : (x : Bool) → 0 < length (cond x (guide_cut 1 g) g).active
    split true = subst (λ (l : List ℕ). 0 < length (take 1 l)) (sym are) (omega arith)
    split false = subst (λ (l : List ℕ). 0 < length l) (sym are) (omega arith)

module _ {A : Type 0} (x : Bool) (xs : List A) (head : A) (others : List A) (are : xs ≡ head ∷ others) where
  pub settled_some : 0 < length (cond x (take 1 xs) xs)
  settled_some = split x
    where
      split : (y : Bool) → 0 < length (cond y (take 1 xs) xs)
      split true = subst (λ (l : List A). 0 < length (take 1 l)) (sym are) (omega arith)
      split false = subst (λ (l : List A). 0 < length l) (sym are) (omega arith)

  pub settled_first : (r : A) → r ≡ get_or (cond x (take 1 xs) xs) 0 r → r ≡ head
  settled_first r h = h ∙ split x
    where
      split : (y : Bool) → get_or (cond y (take 1 xs) xs) 0 r ≡ head
      split true = ap (λ (l : List A). get_or (take 1 l) 0 r) are
      split false = ap (λ (l : List A). get_or l 0 r) are

module _ (m : Parts) (kept : Kept m) (by : ℕ) (ok : IsAccepted m (Commit by)) (seats : List Seat) (same : map whole_seat seats ≡ m.seats) where
  abbrev mm : Machine State
  mm = machine_of (program m.image) m.plain

  can : CanCommit m.image m.config (own_standing m kept)
  can = can_commit m.image m.config (own_standing m kept) by (ok (own_standing m kept) (stands m kept))

  done : HasEnded (program m.image) m.plain
  done = head_ended m.image (given m.image kept.sound) m.config (own_standing m kept) can

  head_seat : slice_get (machine_of (program m.image) m.plain).seats 0 ≡ Some (seat_of can.run)
  head_seat = seat_here m.image m.config (own_standing m kept) 0 ∙ ap (option_map seat_of) can.here

  -- the head has ended
  head_ends : head_end (map whole_seat seats) ≡ Some can.end
  head_ends = ap head_end (same ∙ kept.seats) ∙ ap (option_and_then seat_end) head_seat ∙ can.ended

  pub accepted_room : m.plain.accepted < m.config.events
  accepted_room = can.room

  -- what the calls ask for
  pub lined : m.guide.active ≡ entries_in seats
  lined =
      ap (λ (g : Guide). g.active) kept.guide
      ∙ sym (map_runs (program m.image) seat_entry entry_of (λ y. refl) (seq (program m.image) m.plain.commits).memory m.plain.tasks)
      ∙ ap (map seat_entry) (sym (same ∙ kept.seats))

  units_of : (t : LineTable) → Agrees (bus_state m.bus) t → t.units ≡ units_in seats
  units_of t agrees =
      (reached_with m kept t agrees).lines.units
      ∙ sym (map_runs (program m.image) seat_unit unit_of (λ y. refl) (seq (program m.image) m.plain.commits).memory m.plain.tasks)
      ∙ ap (map seat_unit) (sym (same ∙ kept.seats))

  pub has_units : (t : LineTable) × Agrees (bus_state m.bus) t × (t.units ≡ units_in seats)
  has_units = (kept.lines, kept.agrees, units_of kept.lines kept.agrees)

  seats_many : length seats ≡ length m.plain.tasks
  seats_many =
      sym (count whole_seat seats) ∙ ap (λ (l : List (whole.Seat State)). length l) (same ∙ kept.seats)
      ∙ answering.count (program m.image) (seq (program m.image) m.plain.commits).memory m.plain.tasks

  pub small_commits : m.config.events ≤ 1000000 → m.plain.commits + 1 < 2 ^ 63
  small_commits events = let a = kept.reached.accepted_few in let b = kept.reached.commits_few in omega (arith, a, b, events)

  pub small_seats : m.config.units ≤ 16 → length seats < 2 ^ 32
  small_seats units =
      let few = tasks_few m.image m.config (own_standing m kept) kept.reached in
      let n = seats_many in
      omega (arith, few, n, units)

  module _ (end : End) (h : HasHead seats end) where
    end_is : done.end ≡ end
    end_is = same_Some done.end end (sym (done.is can.run can.here) ∙ can.ended ∙ sym head_ends ∙ ap (λ (l : List Seat). head_end (map whole_seat l)) h.are ∙ h.ended)

    seats_are : (machine_of (program m.image) m.plain).seats ≡ whole_seat h.head ∷ map whole_seat h.others
    seats_are = sym kept.seats ∙ sym same ∙ ap (map whole_seat) h.are

    head_is : whole_seat h.head ≡ seat_of can.run
    head_is = same_Some (whole_seat h.head) (seat_of can.run) (sym (ap (λ (s : List (whole.Seat State)). slice_get s 0) seats_are) ∙ head_seat)

    -- the cuts are those of the others' entries
    cuts_are : cuts_next end (drop 1 m.guide.active) ≡ cuts_next end (entries_in h.others)
    cuts_are = ap (λ (l : List ℕ). cuts_next end (drop 1 l)) (lined ∙ ap entries_in h.are)

    pub active_some : 0 < length (guide_settled end m.guide).active
    active_some = settled_active end m.guide h.head.task_entry (entries_in h.others) (lined ∙ ap entries_in h.are)

    -- of each line table that the bus agreed with before
    pub units_some : (bus : BusValue) → ((t : LineTable) → Agrees (bus_state m.bus) t → Agrees (bus_state bus) (cond (cuts_next end (drop 1 m.guide.active)) (squash t 1) t)) → 0 < length (bus_state bus).units
    units_some bus agrees =
        let t = kept.lines in
        let a = agrees t kept.agrees in
        subst (λ (us : List ℕ). 0 < length us) (sym (a.units ∙ split (cuts_next end (drop 1 m.guide.active))))
        (settled_some (cuts_next end (drop 1 m.guide.active)) t.units h.head.lease.unit.0 (units_in h.others) (units_of t kept.agrees ∙ ap units_in h.are))
      where
        split : (x : Bool) → (cond x (squash kept.lines 1) kept.lines).units ≡ cond x (take 1 kept.lines.units) kept.lines.units
        split true = refl
        split false = refl

    pub commits_small : (bus : BusValue) → ((t : LineTable) → Agrees (bus_state m.bus) t → Agrees (bus_state bus) (cond (cuts_next end (drop 1 m.guide.active)) (squash t 1) t)) → m.config.events ≤ 1000000 → (bus_state bus).commits < 2 ^ 63
    commits_small bus agrees events =
        let a = (agrees kept.lines kept.agrees).commits ∙ split (cuts_next end (drop 1 m.guide.active)) in
        let k : kept.lines.commits ≡ m.plain.commits = ap (λ (v : Versioned). v.commits) kept.reached.lines.same_map in
        let few = small_commits events in
        omega (arith, a, k, few)
      where
        split : (x : Bool) → (cond x (squash kept.lines 1) kept.lines).commits ≡ kept.lines.commits
        split true = refl
        split false = refl

    -- the output has room for the head's words
    pub output_room : length m.output + length h.head.waiting.items ≤ m.room
    output_room =
        let words : length h.head.waiting.items ≡ length (output can.run.run.log) = ap (λ (s : whole.Seat State). length s.waiting) head_is in
        let out : length m.output ≡ length (seq (program m.image) m.plain.commits).output = ap (λ (l : List ℕ). length l) kept.output in
        let waits = first_waits (running (program m.image) m.plain) can.run can.here in
        let few = kept.reached.outputs_few in
        let events = kept.reached.accepted_few in
        let room = kept.room in
        omega (arith, words, out, waits, few, events, room)

    pub commits_moved : (new : List Seat) → new ≡ drop 1 (cond (cuts_next end (drop 1 m.guide.active)) (take 1 seats) seats)
        → (guide : Guide) → guide ≡ guide_committed end (guide_settled end m.guide)
        → (bus : BusValue) → ((t : LineTable) → Agrees (bus_state m.bus) t → Agrees (bus_state bus) (steps.commit (cond (cuts_next end (drop 1 m.guide.active)) (squash t 1) t)))
        → (out : List ℕ) → out ≡ m.output ++ h.head.waiting.items
        → (stopped : Option End) → stopped ≡ stopped_after (Some end)
        → (places room : ℕ) → m.places ≤ places → m.room ≤ room
        → Moved m (record m { plain = plain_of (m.plain.commits + 1) (m.plain.accepted + 1) m.plain.epoch new; bus = bus; guide = guide; seats = map whole_seat new; places = places; output = out; room = room; stopped = stopped }) (Commit by)
    unfolding whole_event plain_event line_event
    commits_moved new new_is guide guide_is bus agrees out out_is stopped stopped_is places room more_places more_room =
        let C : List (whole.Seat State) → Machine State = λ l. commit_seats (program m.image) mm l in
        let others : List (whole.Seat State) = map whole_seat h.others in
        let one = commit_one (program m.image) m.plain m.plain.tasks can.run can.here in
        record {
          image = refl;
          config = refl;
          tasks = tasks_seen new;
          commits =
              (let k : m.plain.commits + 1 ≡ (plain.commit (program m.image) m.plain).commits = omega (arith, one) in k)
              ∙ ap (λ (z : Machine State). z.versioned.commits) (commit_step (program m.image) (given m.image kept.sound).is_program m.plain kept.reached.due done);
          accepted = subst (λ l. m.plain.accepted + 1 ≡ (C l).accepted) (sym seats_are) (omega arith);
          epoch = sym (ap (λ l. (C l).epoch) seats_are);
          seats =
              ap (map whole_seat) new_is
              ∙ ap₂ (λ (x : Bool) (l : List Seat). map whole_seat (drop 1 (cond x (take 1 l) l))) cuts_are h.are
              ∙ settled_seats end h.head h.others
              ∙ ap {B = List (whole.Seat State)} (λ o. cond (stays o (map seat_entry others)) others []) (sym h.ended)
              ∙ sym (ap (λ l. (C l).seats) seats_are);
          output = out_is ∙ ap (λ (o : List ℕ). o ++ h.head.waiting.items) kept.output ∙ sym (ap (λ l. (C l).output) seats_are);
          stopped = stopped_is ∙ ap stopped_after (sym h.ended) ∙ sym (ap (λ l. (C l).stopped) seats_are);
          guide =
              guide_is ∙ ap₂ (λ (e : End) (g : Guide). guide_committed e (guide_settled e g)) (sym end_is) kept.guide
              ∙ sym (commit_guide (program m.image) (given m.image kept.sound).is_program m.image.entries m.plain can.run can.here kept.reached.due done);
          places = more_places;
          room = more_room;
          lines = λ t a. subst (λ l. Agrees (bus_state bus) (line_commit (program m.image) t l)) (sym seats_are)
              (subst (λ o. Agrees (bus_state bus) (steps.commit (line_settle t (stays o (map seat_entry others))))) (sym h.ended)
              (subst (λ (u : LineTable). Agrees (bus_state bus) (steps.commit u)) (ap {B = LineTable} (λ x. cond x (squash t 1) t) cuts_are ∙ settled_lines t end others (many t a)) (agrees t a)));
        }
      where
        many : (t : LineTable) → Agrees (bus_state m.bus) t → length t.units ≡ suc (length (map whole_seat h.others))
        many t a = ap length (units_of t a ∙ ap units_in h.are) ∙ ap suc (count seat_unit (map whole_seat h.others))

    pub commit_reply : (cut : Option Cut) → cut ≡ cond (cuts_next end (drop 1 m.guide.active)) (Some (cut_from cause.WrongGuess m.plain.commits (length seats) 1)) None
        → (t : LineTable) → let r : Reply = record { what = what.Committed (record { 0 = m.plain.commits }) end; cut = cut } in r ≡ whole_reply m.image (machine_of (program m.image) m.plain) t (Commit by)
    unfolding whole_reply
    commit_reply cut cut_is t =
        let others : List (whole.Seat State) = map whole_seat h.others in
        let k : ℕ = m.plain.commits in
        let many : length seats ≡ suc (length others) = ap (λ (l : List Seat). length l) h.are ∙ ap suc (sym (count whole_seat h.others)) in
        ap {B = Reply} (λ (c : Option Cut). record { what = what.Committed (record { 0 = k }) end; cut = c })
        (cut_is ∙ ap {B = Option Cut} (λ x. cond x (Some (cut_from cause.WrongGuess k (length seats) 1)) None) cuts_are ∙ settled_cut end k (length seats) others many)
        ∙ ap (λ o. reply_to_commit k o (stays o (map seat_entry others)) others) (sym h.ended)
        ∙ sym (ap (whole_committed (program m.image) k) seats_are)
