-- A recorder whose run goes on: some unit's move is accepted.
use Rattle.std.proofs.Common.{ℕ, suc, ◌≡◌, ◌≢◌, ◌<◌, ◌-◌, ◌^◌, ◌==◌, Bool, true, false, ◌&&◌, map, List, [], ◌∷◌, length, get_or, Option, Some, None, refl, sym, ap, ◌∙◌, subst, option_map, is_some, is_none, arith, ltb, inl, inr}
use Rattle.std.specs.Prelude.{nat_le, ◌||◌, ◌⊎◌, if◌then◌else◌}
use Rattle.std.proofs.lemmas.Option.{none-some, same_Some}
use Rattle.std.proofs.lemmas.Bool.{eq-eqb, lt-ltb}
use borrow.Author.Tests.{both_ways}
use Rattle.svc_base.specs.declared.config.Config.{Config}
use Rattle.svc_base.specs.declared.ids.UnitId.{UnitId}
use Rattle.svc_base.specs.declared.ids.WordAddr.{WordAddr}
use Rattle.svc_base.specs.declared.refusal.Refusal.{Refusal}
use Rattle.svc_base.specs.declared.refusal.Refusal.TheVariants as refusal
use Rattle.svc_image.specs.Image.{Image, IsImage}
use Rattle.svc_core_laws.specs.State.{State}
use Rattle.svc_core_laws.specs.Words.{program}
use Rattle.svc_core_laws.specs.Sequence.{plain_seq}
use Rattle.svc_core_laws.specs.Bursts.{Advance}
use Rattle.svc_core.specs.declared.burst.Lease.{Lease}
use Rattle.svc_bus_laws.specs.Refusals.{is_head}
use Rattle.svc_machine_laws.specs.PlainMachine.{Plain, Task, unit_of}
use Rattle.svc_machine_laws.specs.WholeMachine.{Seat, Machine, machine_of}
use Rattle.svc_machine_laws.specs.Events.{Event, Assign, Submit, Replace, Commit}
use Rattle.svc_machine_laws.specs.Refusals.{seat_at, asked_word}
use Rattle.svc_machine_laws.specs.Guess.{guess, IsGuess}
use Rattle.svc_machine_laws.specs.Standing.{Standing, refusal_of}
use Rattle.svc_machine_laws.proofs.Given.{given}
use Rattle.svc_machine_laws.proofs.Guessing.{is_guess}
use Rattle.svc_machine.specs.Reads.{lease_of, lease_from, runs_head, is_full}
use Rattle.svc_history_laws.specs.Histories.{LeadsOn}
use Rattle.svc_history_laws.proofs.Histories.{leads_on}
use Rattle.svc_history.specs.Glances.{has_ended}
use Rattle.svc_history.specs.Moves.{NextMove, in_run, move_of, without_task}
use Rattle.svc_history.specs.Moves as move
use Rattle.svc_history.specs.Recorded.{Recorded, IsLegal, standing_of}
use Rattle.svc_schedule.specs.Moves.{Asks, IsBurstOf, IsPassed}
use Rattle.svc_schedule.proofs.Accepting.{IsGoing, IsOwnBurst, is_at, assign_passes, commit_passes, replace_passes, submit_passes}
use Rattle.svc_schedule.proofs.Epochs.{epochs_few}

or_off : (x y : Bool) → (x || y) ≡ false → (x ≡ false) × (y ≡ false)
or_off true y h = absurd (both_ways true h refl)
or_off false y h = (refl, h)

mapped_none : {A B : Type 0} (f : A → B) (o : Option A) → option_map f o ≡ None → o ≡ None
mapped_none f None h = refl
mapped_none f (Some x) h = absurd (none-some (f x) (sym h))

mapped_some : {A B : Type 0} (f : A → B) (o : Option A) (y : B) → option_map f o ≡ Some y → (x : A) × (o ≡ Some x) × (f x ≡ y)
mapped_some f None y h = absurd (none-some y h)
mapped_some f (Some x) y h = (x, refl, same_Some (f x) y h)

done_some : {A : Type 0} (o : Option A) → is_none o ≡ false → is_some o ≡ true
done_some (Some x) h = refl
done_some None h = absurd (both_ways true h refl)

line : (b : WordAddr) (a : ℕ) → refusal.SetFull b ≡ refusal.SetFull (record { 0 = a }) → b.0 ≡ a
line b a h = cc

-- the unit runs the head, or has no task: it needn't wait for another unit
abbrev pub CanGo : Recorded → ℕ → Type 0
CanGo r unit = (runs_head r.machine unit ≡ true) ⊎ (lease_of r.machine unit ≡ None)

module _ (r : Recorded) (legal : IsLegal r) (is : IsImage r.machine.image) where
  abbrev img : Image
  img = r.machine.image

  abbrev config : Config
  config = r.machine.config

  abbrev s : Standing
  s = standing_of r

  abbrev m : Machine State
  m = machine_of (program img) s.plain

  on : LeadsOn img config r.entries
  on = leads_on img (given img is) config r.entries legal.legal

  same : r.machine.plain ≡ s.plain
  same = legal.here.plain

  going : has_ended r.machine ≡ false → IsGoing img config s
  going h =
      let off = or_off (is_some (plain_seq img r.machine.plain.commits).stopped) (is_full r.machine) h in
      record {
        stopped =
            ap is_some ((given img is).bytes s.plain.commits).stopped
            ∙ (ap (λ (q : Plain). is_some (plain_seq img q.commits).stopped) (sym same) ∙ off.0);
        room = ap (λ (q : Plain). nat_le config.events q.accepted) (sym same) ∙ off.1;
      }

  idle_seat : (unit : ℕ) → lease_of r.machine unit ≡ None → seat_at m unit ≡ None
  idle_seat unit h = mapped_none lease_from _ (ap (λ (q : Plain). option_map lease_from (seat_at (machine_of (program img) q) unit)) (sym same) ∙ h)

  seat_of : (unit : ℕ) (lease : Lease) → lease_of r.machine unit ≡ Some lease → (seat : Seat State) × (seat_at m unit ≡ Some seat) × (lease_from seat ≡ lease)
  seat_of unit lease h = mapped_some lease_from _ lease (ap (λ (q : Plain). option_map lease_from (seat_at (machine_of (program img) q) unit)) (sym same) ∙ h)

  head_there : (unit : ℕ) → runs_head r.machine unit ≡ true → is_head (map unit_of s.plain.tasks) unit ≡ true
  head_there unit h = ap (λ (q : Plain). is_head (map unit_of q.tasks) unit) (sym same) ∙ h

  epochs_left : s.plain.epoch ≢ 2 ^ 64 - 1
  epochs_left =
      let few = epochs_few img (given img is) config r.entries legal.legal in
      let count = on.accepted in
      let room = on.reached.accepted_few in
      let limit = config.few_events in
      omega (arith, few, count, room, limit)

  there_guess : IsGuess img s.plain
  there_guess = is_guess img is (given img is) config s on.reached

  -- there is a guess
  guessed : has_ended r.machine ≡ false → guess (program img) img.entries r.machine.plain ≡ None → ⊥
  guessed h none =
      let there : guess (program img) img.entries s.plain ≡ None = ap (guess (program img) img.entries) (sym same) ∙ none in
      both_ways false refl (sym (ap is_some there) ∙ there_guess.going (going h).stopped)

  assigned : has_ended r.machine ≡ false → (unit : ℕ) → unit < config.units → lease_of r.machine unit ≡ None → (e : ℕ) → guess (program img) img.entries r.machine.plain ≡ Some e
      → refusal_of img config s (Assign unit e) ≡ None
  assigned h unit known idle e guess_is =
      assign_passes img config s (going h) unit known e (idle_seat unit idle) (there_guess.entry e (ap (guess (program img) img.entries) (sym same) ∙ guess_is)) epochs_left

  committed : has_ended r.machine ≡ false → (unit : ℕ) → unit < config.units → (lease : Lease) → lease_of r.machine unit ≡ Some lease → is_none lease.core.done ≡ false → runs_head r.machine unit ≡ true
      → refusal_of img config s (Commit unit) ≡ None
  committed h unit known lease at ended head =
      let seat = seat_of unit lease at in
      commit_passes img config s (going h) unit known seat.0 seat.1 (head_there unit head) (done_some seat.0.core.done (ap (λ (l : Lease). is_none l.core.done) seat.2 ∙ ended))

  -- the burst of a lease is that of the unit's running task
  own_burst : (h : has_ended r.machine ≡ false) (unit : ℕ) (known : unit < config.units) (lease : Lease) → lease_of r.machine unit ≡ Some lease → is_none lease.core.done ≡ true
      → (most : ℕ) → 0 < most → (b : Advance) → IsBurstOf img most lease b → IsOwnBurst img config s (going h) unit known b
  own_burst h unit known lease at running most some b made =
      let seat = seat_of unit lease at in
      record {
        most = most;
        some = some;
        seat = seat.0;
        at = seat.1;
        running = ap (λ (l : Lease). is_none l.core.done) seat.2 ∙ running;
        unit_is = ap (λ (u : UnitId). u.0) (made.unit ∙ ap (λ (l : Lease). l.unit) (sym seat.2)) ∙ (is_at m unit seat.0 seat.1).own;
        epoch = made.epoch ∙ ap (λ (l : Lease). l.epoch) (sym seat.2);
        start = made.start ∙ ap (λ (l : Lease). l.core) (sym seat.2);
        advance = made.advance;
      }

  -- its submit is refused for a full set alone, and the head's unit may replace the line that is named
  submitted : (h : has_ended r.machine ≡ false) (unit : ℕ) (known : unit < config.units) (lease : Lease) → lease_of r.machine unit ≡ Some lease → is_none lease.core.done ≡ true
      → (most : ℕ) → 0 < most → (b : Advance) → IsBurstOf img most lease b → (why : Refusal) → refusal_of img config s (Submit b) ≡ Some why
      → (a : ℕ) × (why ≡ refusal.SetFull (record { 0 = a })) × (runs_head r.machine unit ≡ true → refusal_of img config s (Replace unit a) ≡ None)
  submitted h unit known lease at running most some b made why says =
      let names = submit_passes img config s (going h) unit known b why (own_burst h unit known lease at running most some b made) says in
      (names.addr, names.why_is, λ head. replace_passes img config s (going h) unit known on.reached.lines.units (asked_word img b.ask) names.addr names.full (head_there unit head))

  -- some unit can go: without a task any, and else the head's
  someone : (unit : ℕ) × (unit < config.units) × CanGo r unit
  someone = of s.plain.tasks refl
    where
      of : (ts : List Task) → s.plain.tasks ≡ ts → (unit : ℕ) × (unit < config.units) × CanGo r unit
      of [] e =
          let idle : lease_of r.machine 0 ≡ None =
          ap (λ (q : Plain). option_map lease_from (seat_at (machine_of (program img) q) 0)) same
          ∙ ap (λ ts. option_map lease_from (seat_at (machine_of (program img) (record s.plain { tasks = ts })) 0)) e in
          let few = config.some_units in
          (0, omega (arith, few), inr idle)
      of (t ∷ ts) e =
          let lines = on.reached.lines in
          let units : s.lines.units ≡ t.unit ∷ map unit_of ts = lines.units ∙ ap (map unit_of) e in
          let caches = lines.caches in
          let count = ap length units in
          let known = lines.sound.known_units 0 (omega (arith, count)) in
          let first = ap (λ l. get_or l 0 0) units in
          let head : is_head (t.unit ∷ map unit_of ts) t.unit ≡ true = both (ltb 0 (suc (length (map unit_of ts)))) (t.unit == t.unit) (lt-ltb 0 (suc (length (map unit_of ts))) (omega arith)) (eq-eqb t.unit t.unit refl) in
          (t.unit, omega (arith, known, first, caches), inl (ap (λ (q : Plain). is_head (map unit_of q.tasks) t.unit) same ∙ (ap (λ l. is_head (map unit_of l) t.unit) e ∙ head)))
        where
          both : (x y : Bool) → x ≡ true → y ≡ true → (x && y) ≡ true
          both true y h k = k
          both false y h k = absurd (both_ways false refl h)

  -- ---- moves

  -- a move that asks for nothing, or for an event that is refused
  abbrev Stuck : (most unit : ℕ) → NextMove → Type 0
  Stuck most unit mv = ((mv ≡ move.Wait) ⊎ (mv ≡ move.Ended)) ⊎ ((x : Event) × Asks img config s most unit mv x × (is_some (refusal_of img config s x) ≡ true))

  stuck : (most unit : ℕ) → unit < config.units → IsPassed most r (record { 0 = unit }) → Stuck most unit (move_of r.machine unit)
  stuck most unit known (inl (inl beyond)) = absurd (omega (arith, known, beyond))
  stuck most unit known (inl (inr none)) = inl none
  stuck most unit known (inr not) = inr (not.event, not.move_is.asks, not.refused_is)

  accepted : (x y : Event) → x ≡ y → refusal_of img config s y ≡ None → is_some (refusal_of img config s x) ≡ true → ⊥
  accepted x y e passes h = both_ways (is_some (refusal_of img config s x)) (ap (λ z. is_some (refusal_of img config s z)) e ∙ ap is_some passes) h

  module _ (h : has_ended r.machine ≡ false) (most : ℕ) (some : 0 < most) (unit : ℕ) (known : unit < config.units) where
    in_run_is : move_of r.machine unit ≡ in_run (lease_of r.machine unit) (runs_head r.machine unit) (guess (program img) img.entries r.machine.plain)
    in_run_is = ap (λ x. if x then move.Ended else in_run (lease_of r.machine unit) (runs_head r.machine unit) (guess (program img) img.entries r.machine.plain)) h

    begins : lease_of r.machine unit ≡ None → (entry : ℕ) → guess (program img) img.entries r.machine.plain ≡ Some entry → Stuck most unit (move.Begin entry) → ⊥
    begins idle entry at (inl (inl e)) = cc (e)
    begins idle entry at (inl (inr e)) = cc (e)
    begins idle entry at (inr (x, asks, not)) = accepted x (Assign unit entry) asks (assigned h unit known idle entry at) not

    runs_on : (lease : Lease) → lease_of r.machine unit ≡ Some lease → is_none lease.core.done ≡ true → runs_head r.machine unit ≡ true → Stuck most unit (move.RunOn lease) → ⊥
    runs_on lease at running head (inl (inl e)) = cc (e)
    runs_on lease at running head (inl (inr e)) = cc (e)
    runs_on lease at running head (inr (x, (b, made, inl (asks, room)), not)) = of (refusal_of img config s (Submit b)) refl
      where
        of : (o : Option Refusal) → refusal_of img config s (Submit b) ≡ o → ⊥
        of None e = accepted x (Submit b) asks e not
        of (Some why) e = let names = submitted h unit known lease at running most some b made why e in room (record { 0 = names.0 }) (e ∙ ap Some names.1)
    runs_on lease at running head (inr (x, (b, made, inr (addr, full, asks)), not)) =
        let names = submitted h unit known lease at running most some b made (refusal.SetFull addr) full in
        accepted x (Replace unit names.0) (asks ∙ ap (Replace unit) (line addr names.0 names.1)) (names.2 head) not

    commits : (lease : Lease) → lease_of r.machine unit ≡ Some lease → is_none lease.core.done ≡ false → runs_head r.machine unit ≡ true → Stuck most unit move.Commit → ⊥
    commits lease at ended head (inl (inl e)) = cc (e)
    commits lease at ended head (inl (inr e)) = cc (e)
    commits lease at ended head (inr (x, asks, not)) = accepted x (Commit unit) asks (committed h unit known lease at ended head) not

    idle_moves : lease_of r.machine unit ≡ None → (o : Option ℕ) → guess (program img) img.entries r.machine.plain ≡ o → Stuck most unit (without_task o) → ⊥
    idle_moves none None e st = guessed h e
    idle_moves none (Some entry) e st = begins none entry e st

    busy_moves : (lease : Lease) → lease_of r.machine unit ≡ Some lease → runs_head r.machine unit ≡ true → (x : Bool) → is_none lease.core.done ≡ x
        → Stuck most unit (if x then move.RunOn lease else (if runs_head r.machine unit then move.Commit else move.Wait)) → ⊥
    busy_moves lease at head true e st = runs_on lease at e head st
    busy_moves lease at head false e st = commits lease at e head (subst (λ y. Stuck most unit (if y then move.Commit else move.Wait)) head st)

    heads : (lease : Lease) → lease_of r.machine unit ≡ Some lease → CanGo r unit → runs_head r.machine unit ≡ true
    heads lease at (inl head) = head
    heads lease at (inr none) = absurd (none-some lease (sym none ∙ at))

    in_run_moves : (o : Option Lease) → lease_of r.machine unit ≡ o → CanGo r unit → Stuck most unit (in_run o (runs_head r.machine unit) (guess (program img) img.entries r.machine.plain)) → ⊥
    in_run_moves None e can st = idle_moves e (guess (program img) img.entries r.machine.plain) refl st
    in_run_moves (Some lease) e can st = busy_moves lease e (heads lease e can) (is_none lease.core.done) refl st

    -- a unit that can go isn't passed over
    can_move : CanGo r unit → Stuck most unit (move_of r.machine unit) → ⊥
    can_move can stays = in_run_moves (lease_of r.machine unit) refl can (subst (Stuck most unit) in_run_is stays)

  -- in a run that goes on not every unit is passed over
  pub someone_moves : has_ended r.machine ≡ false → (most : ℕ) → 0 < most → ((unit : ℕ) → unit < 16 → IsPassed most r (record { 0 = unit })) → ⊥
  someone_moves h most some all =
      let who = someone in
      let few = config.few_units in
      can_move h most some who.0 who.1 who.2 (stuck most who.0 who.1 (all who.0 (omega (arith, who.1, few))))
