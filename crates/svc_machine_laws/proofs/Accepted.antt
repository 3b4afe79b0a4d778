-- What an accepted event tells: no case of the table of refusals holds.
use Rattle.std.proofs.Common.{ℕ, ◌≡◌, ◌==◌, ◌<◌, true, false, not, ◌&&◌, map, Option, Some, None, refl, sym, ap, ◌∙◌, subst, option_map, slice_get, is_some, is_none, unwrap_or}
use Rattle.std.specs.Prelude.{nat_le}
use Rattle.std.proofs.lemmas.Option.{slice_get-map, none-some}
use Rattle.std.proofs.lemmas.Bool.{leb-false}
use borrow.Author.Tests.{both_ways, not-false}
use Rattle.svc_base.specs.declared.config.Config.{Config}
use Rattle.svc_image.specs.Image.{Image, is_entry}
use Rattle.svc_core_laws.specs.declared.end.End.{End}
use Rattle.svc_core_laws.specs.State.{State}
use Rattle.svc_core_laws.specs.Same.{same_state}
use Rattle.svc_core_laws.proofs.SameCore.{same_state-is}
use Rattle.svc_core_laws.specs.Program.{seq}
use Rattle.svc_core_laws.specs.Words.{program}
use Rattle.svc_core_laws.specs.Bursts.{Advance, are_of, is_nothing}
use Rattle.svc_bus_laws.specs.Refusals.{table_cache, is_pinned}
use Rattle.svc_machine_laws.specs.PlainMachine.{Running, running, unit_of}
use Rattle.svc_machine_laws.specs.WholeMachine.{Seat, Machine, machine_of, seat_of, seat_unit}
use Rattle.svc_machine_laws.specs.Events.{Event, Assign, Submit, Replace, Cancel, Commit, place_in, task_place, seat_place}
use Rattle.svc_machine_laws.specs.Refusals.{seat_at, is_current, has_ended, cases_of, first_case, refuse, full_set, asked_word}
use Rattle.svc_machine_laws.specs.Standing.{Standing, refusal_of}
use Rattle.svc_machine_laws.proofs.Cases.{no_case, some_of, none_of}
use Rattle.svc_machine_laws.proofs.Parts.{and_right}
use Rattle.svc_machine_laws.proofs.Places.{found}
use Rattle.svc_machine_laws.proofs.Steps.{map_runs}

below : (x y : ℕ) → nat_le y x ≡ false → x < y
below x y h = leb-false y x h

pub record CanAssign (img : Image) (config : Config) (s : Standing) (unit guess : ℕ) : Type 0 where
  pub known : unit < config.units
  pub idle : task_place s.plain unit ≡ None
  pub entry : (is_some (slice_get (machine_of (program img) s.plain).seats 0) && not (is_entry img guess)) ≡ false
  pub going : is_some (seq (program img) s.plain.commits).stopped ≡ false
  pub room : s.plain.accepted < config.events

pub record CanSubmit (img : Image) (config : Config) (s : Standing) (b : Advance) : Type 0 where
  pub place : ℕ
  pub at : task_place s.plain b.unit.0 ≡ Some place
  pub run : Running State
  pub here : slice_get (running (program img) s.plain) place ≡ Some run
  pub start : run.run.core ≡ b.start
  pub ours : are_of img b.looks ≡ true
  pub going : run.run.core.done ≡ None
  pub free : full_set s.lines b.unit.0 (asked_word img b.ask) ≡ None
  pub room : s.plain.accepted < config.events
  pub some : (is_nothing b.ask && same_state b.end b.start) ≡ false

pub record CanReplace (config : Config) (s : Standing) (unit a : ℕ) : Type 0 where
  pub unpinned : is_pinned (table_cache s.lines unit) s.lines.units unit a ≡ false
  pub room : s.plain.accepted < config.events

pub record CanCancel (config : Config) (s : Standing) (unit : ℕ) : Type 0 where
  pub place : ℕ
  pub at : task_place s.plain unit ≡ Some place
  pub later : (place == 0) ≡ false
  pub room : s.plain.accepted < config.events

pub record CanCommit (img : Image) (config : Config) (s : Standing) : Type 0 where
  pub run : Running State
  pub here : slice_get (running (program img) s.plain) 0 ≡ Some run
  pub end : End
  pub ended : run.run.core.done ≡ Some end
  pub going : is_some (seq (program img) s.plain.commits).stopped ≡ false
  pub room : s.plain.accepted < config.events

module _ (img : Image) (config : Config) (s : Standing) where
  abbrev m : Machine State
  m = machine_of (program img) s.plain

  cases : (x : Event) → refusal_of img config s x ≡ None → first_case (cases_of img config m s.lines x) ≡ None
  unfolding refusal_of refuse
  cases x h = h

  -- the units of the seats are those of the tasks
  pub seat_places : (unit : ℕ) → seat_place m unit ≡ task_place s.plain unit
  seat_places unit = ap (λ l. place_in l unit) (map_runs (program img) seat_unit unit_of (λ x. refl) (seq (program img) s.plain.commits).memory s.plain.tasks)

  pub seat_here : (q : ℕ) → slice_get m.seats q ≡ option_map seat_of (slice_get (running (program img) s.plain) q)
  seat_here q = slice_get-map seat_of (running (program img) s.plain) q

  -- the run of the unit's task
  run_here : (unit q : ℕ) → seat_place m unit ≡ Some q → (x : Running State) × (slice_get (running (program img) s.plain) q ≡ Some x)
  run_here unit q e =
      let at : slice_get (map seat_unit m.seats) q ≡ Some unit = found (map seat_unit m.seats) unit q e in
      of (slice_get (running (program img) s.plain) q) refl at
    where
      of : (o : Option (Running State)) → slice_get (running (program img) s.plain) q ≡ o → slice_get (map seat_unit m.seats) q ≡ Some unit → (x : Running State) × (o ≡ Some x)
      of (Some x) h at = (x, refl)
      of None h at = absurd (none-some unit (sym (ap (option_map (λ (z : Seat State). z.unit)) (ap (option_map seat_of) h)) ∙ sym (ap (option_map (λ (z : Seat State). z.unit)) (seat_here q)) ∙ sym (slice_get-map seat_unit m.seats q) ∙ at))

  pub can_assign : (unit guess : ℕ) → refusal_of img config s (Assign unit guess) ≡ None → CanAssign img config s unit guess
  can_assign unit guess h =
      let off = no_case (cases_of img config m s.lines (Assign unit guess)) (cases (Assign unit guess) h) in
      record {
        known = below unit config.units (off 0);
        idle = sym (seat_places unit) ∙ none_of (seat_place m unit) (off 1);
        entry = off 2;
        going = off 3;
        room = below s.plain.accepted config.events (off 4);
      }

  pub can_submit : (b : Advance) → refusal_of img config s (Submit b) ≡ None → CanSubmit img config s b
  can_submit b h =
      let off = no_case (cases_of img config m s.lines (Submit b)) (cases (Submit b) h) in
      let spot = some_of (seat_place m b.unit.0) (off 1) in
      let run = run_here b.unit.0 spot.0 spot.1 in
      let seat : seat_at m b.unit.0 ≡ Some (seat_of run.0) =
      ap (λ o. unwrap_or (option_map (slice_get m.seats) o) None) spot.1 ∙ seat_here spot.0 ∙ ap (option_map seat_of) run.1 in
      let current : is_current b (Some (seat_of run.0)) ≡ true = subst (λ o. is_current b o ≡ true) seat (not-false (is_current b (seat_at m b.unit.0)) (off 2)) in
      let core : b.start ≡ run.0.run.core = same_state-is b.start run.0.run.core (and_right (b.epoch == run.0.task.epoch) (same_state b.start run.0.run.core) current) in
      let ended : has_ended (Some (seat_of run.0)) ≡ false = subst (λ o. has_ended o ≡ false) seat (off 4) in
      record {
        place = spot.0;
        at = sym (seat_places b.unit.0) ∙ spot.1;
        run = run.0;
        here = run.1;
        start = sym core;
        ours = not-false (are_of img b.looks) (off 3);
        going = none_of run.0.run.core.done ended;
        free = none_of (full_set s.lines b.unit.0 (asked_word img b.ask)) (off 5);
        room = below s.plain.accepted config.events (off 6);
        some = off 7;
      }

  pub can_replace : (unit a : ℕ) → refusal_of img config s (Replace unit a) ≡ None → CanReplace config s unit a
  can_replace unit a h =
      let off = no_case (cases_of img config m s.lines (Replace unit a)) (cases (Replace unit a) h) in
      record { unpinned = off 3; room = below s.plain.accepted config.events (off 4) }

  pub can_cancel : (unit : ℕ) → refusal_of img config s (Cancel unit) ≡ None → CanCancel config s unit
  can_cancel unit h =
      let off = no_case (cases_of img config m s.lines (Cancel unit)) (cases (Cancel unit) h) in
      let spot = some_of (seat_place m unit) (off 1) in
      record {
        place = spot.0;
        at = sym (seat_places unit) ∙ spot.1;
        later = subst (λ o. unwrap_or (option_map (λ place. place == 0) o) false ≡ false) spot.1 (off 2);
        room = below s.plain.accepted config.events (off 3);
      }

  pub can_commit : (by : ℕ) → refusal_of img config s (Commit by) ≡ None → CanCommit img config s
  can_commit by h =
      let off = no_case (cases_of img config m s.lines (Commit by)) (cases (Commit by) h) in
      of (slice_get (running (program img) s.plain) 0) refl (off 1) (off 2) (off 3) (off 4)
    where
      of : (o : Option (Running State)) → slice_get (running (program img) s.plain) 0 ≡ o
          → is_some (seq (program img) s.plain.commits).stopped ≡ false
          → (is_some (slice_get m.seats 0) && not (has_ended (slice_get m.seats 0))) ≡ false
          → is_none (slice_get m.seats 0) ≡ false → nat_le config.events s.plain.accepted ≡ false → CanCommit img config s
      of None e going ended some room = absurd (both_ways true (subst (λ o. is_none o ≡ false) (seat_here 0 ∙ ap (option_map seat_of) e) some) refl)
      of (Some x) e going ended some room =
          let seat : slice_get m.seats 0 ≡ Some (seat_of x) = seat_here 0 ∙ ap (option_map seat_of) e in
          let test : not (is_some x.run.core.done) ≡ false = subst (λ o. (is_some o && not (has_ended o)) ≡ false) seat ended in
          let end = end_of x.run.core.done (not-false (is_some x.run.core.done) test) in
          record { run = x; here = e; end = end.0; ended = end.1; going = going; room = below s.plain.accepted config.events room }
        where
          end_of : (o : Option End) → is_some o ≡ true → (x : End) × (o ≡ Some x)
          end_of (Some x) h = (x, refl)
          end_of None h = absurd (both_ways false refl h)
