-- What holds of every standing that events lead to holds after one event more.
use Rattle.std.proofs.Common.{ℕ, zero, suc, ◌≡◌, ◌+◌, ◌<◌, ◌≤◌, Bool, true, false, cond, not, ◌&&◌, List, [], ◌∷◌, map, take, length, Option, Some, None, refl, sym, ap, ◌∙◌, subst, arith, is_some, slice_get, unwrap_or}
use Rattle.std.proofs.lemmas.Option.{same_Some, none-some}
use Rattle.std.proofs.lemmas.Bool.{eqb-false}
use borrow.Author.Tests.{both_ways}
use Rattle.svc_base.specs.declared.config.Config.{Config}
use Rattle.svc_base.specs.declared.refusal.Refusal.{Refusal}
use Rattle.svc_image.specs.Image.{Image, is_entry}
use Rattle.svc_core_laws.specs.declared.end.End.{End}
use Rattle.svc_core_laws.specs.State.{State}
use Rattle.svc_core_laws.specs.Program.{Memory, Program, Want, part, seq}
use Rattle.svc_core_laws.specs.Words.{program}
use Rattle.svc_core_laws.specs.Bursts.{Advance, Follows}
use Rattle.svc_bus_laws.specs.Steps as lines
use Rattle.svc_machine_laws.specs.PlainMachine.{Task, Plain, Running, IsDue, runs_of, running, unit_of, entry_of, entry_for}
use Rattle.svc_machine_laws.specs.PlainMachine as plain
use Rattle.svc_machine_laws.specs.WholeMachine.{Machine, machine_of, seat_of}
use Rattle.svc_machine_laws.specs.WholeMachine as whole
use Rattle.svc_bus_laws.specs.LineTable.{LineTable}
use Rattle.svc_machine_laws.proofs.Checks.{same_check, misled_within}
use Rattle.svc_machine_laws.proofs.Submits.{submit_step}
use Rattle.svc_machine_laws.specs.Events.{Event, Assign, Submit, Replace, Cancel, Commit, IsEvent, place_in, task_place, asked_want, plain_event, plain_submit, plain_cancel}
use Rattle.svc_machine_laws.specs.LineEvents.{line_event, line_ask, line_check, line_submit, line_cancel, line_commit}
use Rattle.svc_machine_laws.specs.MachineLaws.{Taken, HasEnded, IsWithin}
use Rattle.svc_machine_laws.specs.Standing.{Standing, refusal_of, standing_after, after_event, unless}
use Rattle.svc_machine_laws.specs.Reached.{IsReached, BeganAtEntry}
use Rattle.svc_machine_laws.proofs.Given.{Given}
use Rattle.svc_machine_laws.proofs.Wants.{asked_within, asked_counts}
use Rattle.svc_machine_laws.proofs.Accepted.{CanAssign, CanSubmit, CanReplace, CanCancel, CanCommit, can_assign, can_submit, can_replace, can_cancel, can_commit, seat_places}
use Rattle.svc_machine_laws.proofs.Every.{every_take, every_append}
use Rattle.svc_machine_laws.proofs.LinesKept.{lines_assign, lines_ask, lines_replace, lines_cancel, lines_commit}
use Rattle.svc_machine_laws.proofs.MachineEvents.{taken, head_ended}
use Rattle.svc_machine_laws.proofs.Places.{found, within}
use Rattle.svc_machine_laws.proofs.Sound.{goes_on, due_some, due_assign, due_take, due_submit, due_commit}
use Rattle.svc_machine_laws.proofs.Waiting.{assign_waiting, cancel_waiting, submit_waiting, commit_waiting}
use Rattle.svc_machine_laws.proofs.Stay.{entry_assigned, submit_entries, commit_entries, commit_idle, assign_counted, take_counted, submit_counted, commit_counted}

count : {A B : Type 0} (f : A → B) (xs : List A) → length (map f xs) ≡ length xs
count f [] = refl
count f (x ∷ xs) = ap suc (count f xs)

none_taken : {A : Type 0} (n : ℕ) → let xs : List A = [] in take n xs ≡ xs
none_taken zero = refl
none_taken (suc n) = refl

module _ (img : Image) (given : Given img) (config : Config) (s : Standing) (reached : IsReached img config s) where
  abbrev p : Program State
  p = program img

  -- the place of a unit's task is one of the tasks'
  place_within : (unit place : ℕ) → task_place s.plain unit ≡ Some place → place < length s.plain.tasks
  place_within unit place e =
      let at : place < length (map unit_of s.plain.tasks) = within (map unit_of s.plain.tasks) place unit (found (map unit_of s.plain.tasks) unit place e) in
      let n = count unit_of s.plain.tasks in
      omega (arith, at, n)

  -- a unit's task tells that the run goes on
  going_on : (unit place : ℕ) → task_place s.plain unit ≡ Some place → is_some (seq p s.plain.commits).stopped ≡ true → ⊥
  going_on unit place e h =
      let empty : s.plain.tasks ≡ [] = reached.idle h in
      none-some place (sym (sym e ∙ ap (λ ts. place_in (map unit_of ts) unit) empty))

  after_assign : (unit guess : ℕ) → CanAssign img config s unit guess → IsReached img config (record { plain = plain.assign p s.plain unit guess; lines = lines.begin s.lines unit })
  after_assign unit guess can =
      let q = seq p s.plain.commits in
      let some : q.due ≡ Some (unwrap_or q.due guess) = due_some q guess (goes_on p given.is_program s.plain.commits) can.going in
      let head : (is_some (slice_get s.plain.tasks 0) && not (is_entry img guess)) ≡ false = subst (λ b. (b && not (is_entry img guess)) ≡ false) (first s.plain.tasks (seq p s.plain.commits).memory) can.entry in
      record {
        due = due_assign q.due s.plain.tasks unit s.plain.epoch guess some reached.due;
        idle = λ h. absurd (both_ways (is_some q.stopped) can.going h);
        entries = every_append (BeganAtEntry img) s.plain.tasks _ reached.entries (entry_assigned img q.due s.plain.tasks guess (given.enters s.plain.commits) some head);
        counted = assign_counted img q.memory s.plain.tasks unit s.plain.epoch (entry_for q.due (map entry_of s.plain.tasks) guess) reached.counted;
        commits_few = let h = reached.commits_few in omega (arith, h);
        accepted_few = let h = can.room in omega (arith, h);
        outputs_few = let h = reached.outputs_few in let e = assign_waiting p s.plain unit guess in omega (arith, h, e);
        lines = lines_assign img config s.plain s.lines unit guess can.known can.idle reached.lines;
      }
    where
      first : (ts : List Task) (m : Memory) → is_some (slice_get (map seat_of (runs_of p m ts)) 0) ≡ is_some (slice_get ts 0)
      first [] m = refl
      first (t ∷ ts) m = refl

  pub after_submit : (b : Advance) → Follows b → (can : CanSubmit img config s b) → IsReached img config (record { plain = plain.submit p s.plain can.place b.local (is_some (asked_want img b)); lines = line_ask (asked_want img b) s.lines can.place })
  after_submit b follows can =
      let q = seq p s.plain.commits in
      let t : Taken p s.plain can.place b.local b.end (asked_want img b) = taken img given config s b follows can in
      let same : can.run ≡ t.run = same_Some can.run t.run (sym can.here ∙ t.at) in
      let counts : b.end.count ≡ t.run.run.core.count + b.local =
      given.counts b follows ∙ ap (λ (c : State). c.count + b.local) (sym can.start) ∙ ap (λ (x : Running State). x.run.core.count + b.local) same in
      let room : (w : Want State) → asked_want img b ≡ Some w → IsWithin s.lines.words w = λ w e. subst (λ n. IsWithin n w) (sym reached.lines.words) (asked_within img b.end b.ask w e) in
      record {
        due = due_submit p q.due q.memory s.plain.tasks can.place b.local (is_some (asked_want img b)) reached.due;
        idle = λ h. absurd (going_on b.unit.0 can.place can.at h);
        entries = submit_entries img p q.memory s.plain.tasks can.place b.local (is_some (asked_want img b)) reached.entries;
        counted = submit_counted img s.plain can.place b.local b.end (asked_want img b) t counts (λ w e. asked_counts img b.end b.ask w e) reached.counted;
        commits_few = let h = reached.commits_few in omega (arith, h);
        accepted_few = let h = can.room in omega (arith, h);
        outputs_few = let h = reached.outputs_few in let e = submit_waiting p s.plain can.place b.local b.end (asked_want img b) t in omega (arith, h, e);
        lines = lines_ask img config s.plain s.lines can.place b.local b.end (asked_want img b) (place_within b.unit.0 can.place can.at) room t reached.lines;
      }

  check_reached : (a : Plain) (t : LineTable) (place : ℕ) → IsReached img config (record { plain = a; lines = t })
      → IsReached img config (record { plain = plain.check p a place; lines = line_check (plain.is_misled p a place) t place })
  check_reached a t place r = of (plain.is_misled p a place) refl
    where
      of : (b : Bool) → plain.is_misled p a place ≡ b → IsReached img config (record { plain = cond b (plain.keep (suc place) a) a; lines = line_check b t place })
      of false e = r
      of true e =
          let q = seq p a.commits in
          let inside = misled_within p a place e in
          let units : length t.units ≡ length a.tasks = ap length r.lines.units ∙ count unit_of a.tasks in
          let l = lines_cancel img config a t (suc place) (omega arith) (omega (arith, inside, units)) r.lines in
          record {
            due = due_take q.due (suc place) a.tasks r.due;
            idle = λ h. ap (take (suc place)) (r.idle h) ∙ none_taken (suc place);
            entries = every_take (BeganAtEntry img) (suc place) a.tasks r.entries;
            counted = take_counted img q.memory (suc place) a.tasks r.counted;
            commits_few = r.commits_few;
            accepted_few = r.accepted_few;
            outputs_few = let h = r.outputs_few in let e = cancel_waiting p a (suc place) in omega (arith, h, e);
            lines = record { sound = l.sound; same_map = l.same_map; units = l.units; caches = l.caches; sets = l.sets; ways = l.ways; words = l.words };
          }

  after_replace : (unit a : ℕ) → CanReplace config s unit a → IsReached img config (record { plain = plain.replace s.plain; lines = lines.replace s.lines unit a })
  after_replace unit a can = record {
    due = reached.due;
    idle = reached.idle;
    entries = reached.entries;
    counted = reached.counted;
    commits_few = let h = reached.commits_few in omega (arith, h);
    accepted_few = let h = can.room in omega (arith, h);
    outputs_few = let h = reached.outputs_few in omega (arith, h);
    lines = lines_replace img config s.plain s.lines unit a can.unpinned reached.lines;
  }

  after_cancel : (unit : ℕ) → (can : CanCancel config s unit) → IsReached img config (record { plain = plain.cancel s.plain can.place; lines = lines.squash s.lines can.place })
  after_cancel unit can =
      let q = seq p s.plain.commits in
      let inside = place_within unit can.place can.at in
      let units : length s.lines.units ≡ length s.plain.tasks = ap length reached.lines.units ∙ count unit_of s.plain.tasks in
      let apart = eqb-false can.place 0 can.later in
      let above : 0 < can.place = omega (arith, apart) in
      record {
        due = due_take q.due can.place s.plain.tasks reached.due;
        idle = λ h. ap (take can.place) (reached.idle h) ∙ none_taken can.place;
        entries = every_take (BeganAtEntry img) can.place s.plain.tasks reached.entries;
        counted = take_counted img q.memory can.place s.plain.tasks reached.counted;
        commits_few = let h = reached.commits_few in omega (arith, h);
        accepted_few = let h = can.room in omega (arith, h);
        outputs_few = let h = reached.outputs_few in let e = cancel_waiting p s.plain can.place in omega (arith, h, e);
        lines = lines_cancel img config s.plain s.lines can.place above (omega (arith, inside, units)) reached.lines;
      }

  after_commit : CanCommit img config s → IsReached img config (record { plain = plain.commit p s.plain; lines = line_commit p s.lines (machine_of p s.plain).seats })
  after_commit can =
      let done : HasEnded p s.plain = head_ended img given config s can in
      record {
        due = commit_due s.plain.commits s.plain.accepted s.plain.epoch s.plain.tasks done.end reached.due done.is;
        idle = commit_idle p given.is_program s.plain.commits s.plain.accepted s.plain.epoch s.plain.tasks done.end reached.due reached.idle done.is;
        entries = commit_entries img p s.plain.commits s.plain.accepted s.plain.epoch s.plain.tasks reached.entries;
        counted = commit_counted img given.is_program s.plain.commits s.plain.accepted s.plain.epoch s.plain.tasks done.end reached.due done.is reached.counted;
        commits_few = few s.plain.tasks;
        accepted_few = least s.plain.tasks;
        outputs_few =
            let h = reached.outputs_few in
            let e = commit_waiting p given.is_program s.plain.commits s.plain.accepted s.plain.epoch s.plain.tasks done.end reached.due done.is in
            let n = more s.plain.tasks in
            omega (arith, h, e, n);
        lines = lines_commit img config given.is_program s.plain s.lines can.run can.here reached.due done reached.lines;
      }
    where
      commit_due : (k a e : ℕ) (ts : List Task) (ended : End) → IsDue (seq p k).due ts
          → ((x : Running State) → slice_get (runs_of p (seq p k).memory ts) 0 ≡ Some x → x.run.core.done ≡ Some ended)
          → let n : Plain = plain.commit_tasks p (record { commits = k; accepted = a; epoch = e; tasks = ts }) ts in IsDue (seq p n.commits).due n.tasks
      commit_due k a e [] ended due done = tt
      commit_due k a e (t ∷ ts) ended due done =
          due_commit p given.is_program k t.entry t.turns ts ended due (done (record { task = t; run = part p t.entry t.turns (seq p k).memory }) refl)

      few : (ts : List Task) → (plain.commit_tasks p s.plain ts).commits ≤ (plain.commit_tasks p s.plain ts).accepted
      few [] = let h = reached.commits_few in omega (arith, h)
      few (t ∷ ts) = let h = reached.commits_few in omega (arith, h)

      more : (ts : List Task) → s.plain.accepted ≤ (plain.commit_tasks p s.plain ts).accepted
      more [] = omega arith
      more (t ∷ ts) = omega arith

      least : (ts : List Task) → (plain.commit_tasks p s.plain ts).accepted ≤ config.events
      least [] = let h = can.room in omega (arith, h)
      least (t ∷ ts) = let h = can.room in omega (arith, h)

  -- AN ACCEPTED EVENT
  pub step_reached : (x : Event) → IsEvent x → refusal_of img config s x ≡ None → IsReached img config (standing_after img s x)
  unfolding standing_after plain_event line_event
  step_reached (Assign unit guess) is h = after_assign unit guess (can_assign img config s unit guess h)
  step_reached (Submit b) is h =
      let can = can_submit img config s b h in
      let place = seat_places img config s b.unit.0 ∙ can.at in
      let after : Plain = plain.submit p s.plain can.place b.local (is_some (asked_want img b)) in
      subst (λ o. IsReached img config (record { plain = plain_submit img s.plain (task_place s.plain b.unit.0) b; lines = line_submit p (machine_of p s.plain) b.end (asked_want img b) s.lines o })) (sym place)
      (subst (λ o. IsReached img config (record { plain = plain_submit img s.plain o b; lines = line_check (whole.is_misled p (whole.submit (machine_of p s.plain) can.place b.end (asked_want img b)).seats can.place) (line_ask (asked_want img b) s.lines can.place) can.place })) (sym can.at)
      (subst (λ c. IsReached img config (record { plain = plain.check p after can.place; lines = line_check c (line_ask (asked_want img b) s.lines can.place) can.place }))
      (sym (same_check p after can.place) ∙ ap (λ (m : Machine State). whole.is_misled p m.seats can.place) (submit_step p s.plain can.place b.local b.end (asked_want img b) (taken img given config s b is can)))
      (check_reached after (line_ask (asked_want img b) s.lines can.place) can.place (after_submit b is can))))
  step_reached (Replace unit a) is h = after_replace unit a (can_replace img config s unit a h)
  step_reached (Cancel unit) is h =
      let can = can_cancel img config s unit h in
      let place = seat_places img config s unit ∙ can.at in
      subst (λ o. IsReached img config (record { plain = plain_cancel s.plain (task_place s.plain unit); lines = line_cancel s.lines o })) (sym place)
      (subst (λ o. IsReached img config (record { plain = plain_cancel s.plain o; lines = lines.squash s.lines can.place })) (sym can.at) (after_cancel unit can))
  step_reached (Commit by) is h = after_commit (can_commit img config s by h)

  -- AN EVENT, accepted or not
  pub event_reached : (x : Event) → IsEvent x → IsReached img config (after_event img config s x)
  unfolding after_event
  event_reached x is = split (refusal_of img config s x) refl
    where
      split : (o : Option Refusal) → refusal_of img config s x ≡ o → IsReached img config (unless o s (standing_after img s x))
      split (Some r) h = reached
      split None h = step_reached x is h
