-- The plain and the whole machine of renamed units.
use Rattle.std.proofs.Common.{ℕ, zero, suc, ◌≡◌, Bool, true, false, cond, List, [], ◌∷◌, ◌++◌, map, Option, Some, None, refl, sym, ap, ap₂, ◌∙◌, option_map, slice_get, unwrap_or, is_some}
use Rattle.std.proofs.lemmas.Option.{slice_get-map}
use Rattle.svc_image.specs.Image.{Image}
use Rattle.svc_core_laws.specs.declared.end.End.{End}
use Rattle.svc_core_laws.specs.Program.{Memory, Program, Run, Want, Local, Load, Store, Narrow, Emit, seq, part, over, wrote}
use Rattle.svc_core_laws.specs.Words.{program}
use Rattle.svc_bus_laws.specs.Versioned.{with_head}
use Rattle.svc_bus_laws.specs.ByRows.{edit}
use Rattle.svc_machine_laws.specs.PlainMachine.{Task, Plain, Running, unit_of, entry_of, runs_of, running, row_of, memory_at, more, one_more, cut_by, take_turn_by, take_turn, tasks_after_submit, stays, staying_tasks, cuts_after, run_done, run_entry, entry_for, accept}
use Rattle.svc_machine_laws.specs.PlainMachine as plain
use Rattle.svc_machine_laws.specs.WholeMachine.{Seat, Machine, machine_of, seat_of, seat_unit, seat_entry, seat_turn, at_core, memory_seen}
use Rattle.svc_machine_laws.specs.WholeMachine as whole
use Rattle.svc_machine_laws.specs.Events.{Event, Assign, Submit, Replace, Cancel, Commit, place_in, task_place, seat_place, asked_want, plain_submit, plain_cancel, plain_event}
use Rattle.svc_machine_laws.specs.Refusals.{seat_at}
use Rattle.svc_machine_laws.proofs.EditedLists.{map_take, map_append_one, map_edit}
use Rattle.svc_renaming_laws.specs.Renamings.{Renaming, IsRenaming}
use Rattle.svc_renaming_laws.specs.Renamed.{renamed_task, renamed_plain, renamed_burst, renamed_event}
use Rattle.svc_renaming_laws.proofs.Names.{both_names, map_both}

-- a run, a seat and a machine whose units are renamed
abbrev pub renamed_run : {C : Type 0} → Renaming → Running C → Running C
renamed_run r x = record { task = renamed_task r x.task; run = x.run }

abbrev pub renamed_seat : {C : Type 0} → Renaming → Seat C → Seat C
renamed_seat r x = record x { unit = r.there x.unit }

abbrev pub renamed_machine : {C : Type 0} → Renaming → Machine C → Machine C
renamed_machine r m = record m { seats = map (renamed_seat r) m.seats }

module _ (r : Renaming) where
  pub tasks_units : (ts : List Task) → map unit_of (map (renamed_task r) ts) ≡ map r.there (map unit_of ts)
  tasks_units ts = map_both (renamed_task r) unit_of ts ∙ sym (map_both unit_of r.there ts)

  pub tasks_entries : (ts : List Task) → map entry_of (map (renamed_task r) ts) ≡ map entry_of ts
  tasks_entries ts = map_both (renamed_task r) entry_of ts

  pub seats_units : {C : Type 0} (xs : List (Seat C)) → map seat_unit (map (renamed_seat r) xs) ≡ map r.there (map seat_unit xs)
  seats_units xs = map_both (renamed_seat r) seat_unit xs ∙ sym (map_both seat_unit r.there xs)

  pub seats_entries : {C : Type 0} (xs : List (Seat C)) → map seat_entry (map (renamed_seat r) xs) ≡ map seat_entry xs
  seats_entries xs = map_both (renamed_seat r) seat_entry xs

  -- ---- the runs
  pub runs_renamed : {C : Type 0} (p : Program C) (m : Memory) (ts : List Task) → runs_of p m (map (renamed_task r) ts) ≡ map (renamed_run r) (runs_of p m ts)
  runs_renamed p m [] = refl
  runs_renamed {C} p m (t ∷ ts) =
      let run : Run C = part p t.entry t.turns m in
      ap {B = List (Running C)} (λ q. record { task = renamed_task r t; run = run } ∷ q) (runs_renamed p (over (wrote run.log) m) ts)

  pub memory_renamed : {C : Type 0} (p : Program C) (m : Memory) (ts : List Task) (place : ℕ) → memory_at p m (map (renamed_task r) ts) place ≡ memory_at p m ts place
  memory_renamed p m [] place = refl
  memory_renamed p m (t ∷ ts) zero = refl
  memory_renamed p m (t ∷ ts) (suc place) = memory_renamed p (over (wrote (part p t.entry t.turns m).log) m) ts place

  pub rows_renamed : {C : Type 0} (xs : List (Running C)) → map row_of (map (renamed_run r) xs) ≡ map row_of xs
  rows_renamed xs = map_both (renamed_run r) row_of xs

  pub machine_renamed : {C : Type 0} (p : Program C) (s : Plain) → machine_of p (renamed_plain r s) ≡ renamed_machine r (machine_of p s)
  machine_renamed {C} p s =
      let made : List (Running C) → List (Seat C) → Machine C = λ xs seats. record {
        versioned = record { commits = s.commits; committed = (seq p s.commits).memory; rows = with_head (map row_of xs) };
        seats = seats;
        output = (seq p s.commits).output;
        due = (seq p s.commits).due;
        stopped = (seq p s.commits).stopped;
        accepted = s.accepted;
        epoch = s.epoch;
      } in
      let runs : List (Running C) = running p s in
      ap (λ (xs : List (Running C)). made xs (map seat_of xs)) (runs_renamed p (seq p s.commits).memory s.tasks)
      ∙ ap₂ {C = Machine C} (λ rows seats. record {
        versioned = record { commits = s.commits; committed = (seq p s.commits).memory; rows = with_head rows };
        seats = seats;
        output = (seq p s.commits).output;
        due = (seq p s.commits).due;
        stopped = (seq p s.commits).stopped;
        accepted = s.accepted;
        epoch = s.epoch;
      }) (rows_renamed runs) (map_both (renamed_run r) seat_of runs ∙ sym (map_both seat_of (renamed_seat r) runs))

  -- ---- turns
  more_renamed : (local place : ℕ) (ts : List Task) → edit place (more local) None (map (renamed_task r) ts) ≡ map (renamed_task r) (edit place (more local) None ts)
  more_renamed local place ts = sym (map_edit (renamed_task r) (more local) (more local) place None ts (λ x h. refl))

  asked_renamed : {C : Type 0} (p : Program C) (m : Memory) (ts : List Task) (place : ℕ) → take_turn p m (map (renamed_task r) ts) place ≡ map (renamed_task r) (take_turn p m ts place)
  asked_renamed {C} p m ts place =
      ap (λ xs. take_turn_by p xs (map (renamed_task r) ts) place (slice_get xs place)) (runs_renamed p m ts)
      ∙ ap (take_turn_by p (map (renamed_run r) (runs_of p m ts)) (map (renamed_task r) ts) place) (slice_get-map (renamed_run r) (runs_of p m ts) place)
      ∙ of (slice_get (runs_of p m ts) place)
    where
      of : (o : Option (Running C)) → take_turn_by p (map (renamed_run r) (runs_of p m ts)) (map (renamed_task r) ts) place (option_map (renamed_run r) o) ≡ map (renamed_task r) (take_turn_by p (runs_of p m ts) ts place o)
      of None = refl
      of (Some x) =
          ap (λ rows. edit place one_more (cut_by (p.want x.run.core) rows place) (map (renamed_task r) ts)) (rows_renamed (runs_of p m ts))
          ∙ sym (map_edit (renamed_task r) one_more one_more place (cut_by (p.want x.run.core) (map row_of (runs_of p m ts)) place) ts (λ x h. refl))

  submitted_renamed : {C : Type 0} (p : Program C) (m : Memory) (ts : List Task) (place local : ℕ) (ask : Bool) → tasks_after_submit p m (map (renamed_task r) ts) place local ask ≡ map (renamed_task r) (tasks_after_submit p m ts place local ask)
  submitted_renamed p m ts place local false = more_renamed local place ts
  submitted_renamed p m ts place local true =
      ap (λ us. take_turn p m us place) (more_renamed local place ts) ∙ asked_renamed p m (edit place (more local) None ts) place

  pub submit_renamed : {C : Type 0} (p : Program C) (s : Plain) (place local : ℕ) (ask : Bool) → plain.submit p (renamed_plain r s) place local ask ≡ renamed_plain r (plain.submit p s place local ask)
  submit_renamed p s place local ask = ap (accept s) (submitted_renamed p (seq p s.commits).memory s.tasks place local ask)

  -- whether a guess was wrong
  cuts_renamed : {C : Type 0} (p : Program C) (xs : List (Running C)) (place : ℕ) → plain.cuts_at (run_done p) run_entry (map (renamed_run r) xs) place ≡ plain.cuts_at (run_done p) run_entry xs place
  cuts_renamed p [] place = refl
  cuts_renamed p (x ∷ xs) zero = ap (cuts_after (run_done p x)) (map_both (renamed_run r) run_entry xs)
  cuts_renamed p (x ∷ xs) (suc place) = cuts_renamed p xs place

  pub misled_renamed : {C : Type 0} (p : Program C) (s : Plain) (place : ℕ) → plain.is_misled p (renamed_plain r s) place ≡ plain.is_misled p s place
  misled_renamed p s place = ap (λ xs. plain.cuts_at (run_done p) run_entry xs place) (runs_renamed p (seq p s.commits).memory s.tasks) ∙ cuts_renamed p (running p s) place

  check_renamed : {C : Type 0} (p : Program C) (s : Plain) (place : ℕ) → plain.check p (renamed_plain r s) place ≡ renamed_plain r (plain.check p s place)
  check_renamed p s place = ap (λ b. cond b (plain.keep (suc place) (renamed_plain r s)) (renamed_plain r s)) (misled_renamed p s place) ∙ of (plain.is_misled p s place)
    where
      of : (b : Bool) → cond b (plain.keep (suc place) (renamed_plain r s)) (renamed_plain r s) ≡ renamed_plain r (cond b (plain.keep (suc place) s) s)
      of true = ap (λ ts. record s { tasks = ts }) (sym (map_take (renamed_task r) (suc place) s.tasks))
      of false = refl

  seats_misled : {C : Type 0} (p : Program C) (xs : List (Seat C)) (place : ℕ) → whole.is_misled p (map (renamed_seat r) xs) place ≡ whole.is_misled p xs place
  seats_misled p [] place = refl
  seats_misled p (x ∷ xs) zero = ap (cuts_after (p.done x.core)) (seats_entries xs)
  seats_misled p (x ∷ xs) (suc place) = seats_misled p xs place

  turn_renamed : {C : Type 0} (w : Want C) (look : Memory) (end : C) (x : Seat C) → renamed_seat r (seat_turn w look (at_core end x)) ≡ seat_turn w look (at_core end (renamed_seat r x))
  turn_renamed (Local c) look end x = refl
  turn_renamed (Load a value go) look end x = refl
  turn_renamed (Store a w c) look end x = refl
  turn_renamed (Narrow a f c) look end x = refl
  turn_renamed (Emit w c) look end x = refl

  seats_after : {C : Type 0} (m : Machine C) (place : ℕ) (end : C) (w : Option (Want C)) → (whole.submit (renamed_machine r m) place end w).seats ≡ map (renamed_seat r) (whole.submit m place end w).seats
  seats_after m place end None = sym (map_edit (renamed_seat r) (at_core end) (at_core end) place None m.seats (λ x h. refl))
  seats_after m place end (Some w) =
      sym (map_edit (renamed_seat r) (λ s. seat_turn w (memory_seen m.versioned place) (at_core end s)) (λ s. seat_turn w (memory_seen m.versioned place) (at_core end s)) place
      (cut_by w m.versioned.rows place) m.seats (λ x h. turn_renamed w (memory_seen m.versioned place) end x))

  pub misled_after : {C : Type 0} (p : Program C) (m : Machine C) (place : ℕ) (end : C) (w : Option (Want C))
      → whole.is_misled p (whole.submit (renamed_machine r m) place end w).seats place ≡ whole.is_misled p (whole.submit m place end w).seats place
  misled_after p m place end w = ap (λ xs. whole.is_misled p xs place) (seats_after m place end w) ∙ seats_misled p (whole.submit m place end w).seats place

  -- ---- places
  module _ (n : ℕ) (is : IsRenaming n r) where
    place_renamed : (us : List ℕ) (u : ℕ) → place_in (map r.there us) (r.there u) ≡ place_in us u
    place_renamed [] u = refl
    place_renamed (v ∷ us) u = λ i. cond (both_names r n is v u i) (Some 0) (option_map suc (place_renamed us u i))

    pub same_place : (s : Plain) (u : ℕ) → task_place (renamed_plain r s) (r.there u) ≡ task_place s u
    same_place s u = ap (λ us. place_in us (r.there u)) (tasks_units s.tasks) ∙ place_renamed (map unit_of s.tasks) u

    pub same_seat_place : {C : Type 0} (m : Machine C) (u : ℕ) → seat_place (renamed_machine r m) (r.there u) ≡ seat_place m u
    same_seat_place m u = ap (λ us. place_in us (r.there u)) (seats_units m.seats) ∙ place_renamed (map seat_unit m.seats) u

    pub same_seat : {C : Type 0} (m : Machine C) (u : ℕ) → seat_at (renamed_machine r m) (r.there u) ≡ option_map (renamed_seat r) (seat_at m u)
    same_seat {C} m u = ap (λ o. unwrap_or (option_map (slice_get (map (renamed_seat r) m.seats)) o) None) (same_seat_place m u) ∙ of (seat_place m u)
      where
        of : (o : Option ℕ) → unwrap_or (option_map (slice_get (map (renamed_seat r) m.seats)) o) None ≡ option_map (renamed_seat r) (unwrap_or (option_map (slice_get m.seats) o) None)
        of None = refl
        of (Some place) = slice_get-map (renamed_seat r) m.seats place

    -- ---- the plain machine's events
    pub event_renamed : (img : Image) (s : Plain) (x : Event) → plain_event img (renamed_plain r s) (renamed_event r x) ≡ renamed_plain r (plain_event img s x)
    unfolding plain_event
    event_renamed img s (Assign unit guess) =
        let new : ℕ → Task = λ e. record { unit = r.there unit; epoch = s.epoch; entry = e; turns = 0 } in
        let with_tasks : List Task → Plain = λ ts. record s { accepted = suc s.accepted; epoch = suc s.epoch; tasks = ts } in
        ap (λ l. with_tasks (map (renamed_task r) s.tasks ++ new (entry_for (seq (program img) s.commits).due l guess) ∷ [])) (tasks_entries s.tasks)
        ∙ ap with_tasks (sym (map_append_one (renamed_task r) s.tasks (record { unit = unit; epoch = s.epoch; entry = entry_for (seq (program img) s.commits).due (map entry_of s.tasks) guess; turns = 0 })))
    event_renamed img s (Submit b) = ap (λ o. plain_submit img (renamed_plain r s) o (renamed_burst r b)) (same_place s b.unit.0) ∙ of (task_place s b.unit.0)
      where
        of : (o : Option ℕ) → plain_submit img (renamed_plain r s) o (renamed_burst r b) ≡ renamed_plain r (plain_submit img s o b)
        of None = refl
        of (Some place) =
            ap (λ t. plain.check (program img) t place) (submit_renamed (program img) s place b.local (is_some (asked_want img b)))
            ∙ check_renamed (program img) (plain.submit (program img) s place b.local (is_some (asked_want img b))) place
    event_renamed img s (Replace unit address) = refl
    event_renamed img s (Cancel unit) = ap (plain_cancel (renamed_plain r s)) (same_place s unit) ∙ of (task_place s unit)
      where
        of : (o : Option ℕ) → plain_cancel (renamed_plain r s) o ≡ renamed_plain r (plain_cancel s o)
        of None = refl
        of (Some place) = ap (accept s) (sym (map_take (renamed_task r) place s.tasks))
    event_renamed img s (Commit by) = of s.tasks
      where
        kept : (b : Bool) (ts : List Task) → cond b (map (renamed_task r) ts) [] ≡ map (renamed_task r) (cond b ts [])
        kept true ts = refl
        kept false ts = refl

        of : (ts : List Task) → plain.commit_tasks (program img) (renamed_plain r s) (map (renamed_task r) ts) ≡ renamed_plain r (plain.commit_tasks (program img) s ts)
        of [] = refl
        of (t ∷ ts) =
            let ended : Option End = (program img).done (part (program img) t.entry t.turns (seq (program img) s.commits).memory).core in
            ap (λ us. record s { commits = suc s.commits; accepted = suc s.accepted; tasks = us })
            (ap (λ l. cond (stays ended l) (map (renamed_task r) ts) []) (tasks_entries ts) ∙ kept (stays ended (map entry_of ts)) ts)
