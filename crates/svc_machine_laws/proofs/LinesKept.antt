-- Each accepted event leaves a line table that stands for the plain machine's versioned map.
use Rattle.std.proofs.Common.{ℕ, suc, ◌≡◌, ◌<◌, ◌≤◌, ◌≢◌, Bool, true, false, cond, List, [], ◌∷◌, ◌++◌, map, take, drop, length, Option, Some, None, refl, sym, ap, ◌∙◌, subst, arith, is_some, slice_get, get_or}
use Rattle.std.proofs.lemmas.Option.{none-some}
use Rattle.svc_base.specs.declared.config.Config.{Config}
use Rattle.svc_image.specs.Image.{Image}
use Rattle.svc_core_laws.specs.declared.end.End.{End}
use Rattle.svc_core_laws.specs.State.{State}
use Rattle.svc_core_laws.specs.Program.{Memory, Program, Want, Run, wrote, over, part, seq, IsProgram}
use Rattle.svc_core_laws.specs.Words.{program}
use Rattle.svc_bus_laws.specs.Versioned.{Row, Versioned}
use Rattle.svc_bus_laws.specs.Versioned as map_of
use Rattle.svc_bus_laws.specs.ByRows.{edit}
use Rattle.svc_bus_laws.specs.ByRows as rows
use Rattle.svc_bus_laws.specs.LineTable.{LineTable, unit_at}
use Rattle.svc_bus_laws.specs.Steps.{begin, replace, squash, commit}
use Rattle.svc_bus_laws.specs.Refusals.{is_pinned, table_cache}
use Rattle.svc_bus_laws.proofs.BeginLaws.{begin_sound, begin_map}
use Rattle.svc_bus_laws.proofs.ReplaceLaws.{replace_sound, replace_map}
use Rattle.svc_bus_laws.proofs.RefusalProofs.{unpinned_head}
use Rattle.svc_bus_laws.proofs.SquashLaws.{squash_law}
use Rattle.svc_machine_laws.specs.PlainMachine.{Task, Plain, Running, IsDue, runs_of, running, unit_of, entry_of, entry_for, stays, cut_by}
use Rattle.svc_machine_laws.specs.PlainMachine as plain
use Rattle.svc_machine_laws.specs.WholeMachine.{Seat, Machine, machine_of, seat_of, seat_unit, seat_entry, seat_turn, at_core, memory_seen, settle}
use Rattle.svc_machine_laws.specs.WholeMachine as whole
use Rattle.svc_machine_laws.specs.Events.{task_place}
use Rattle.svc_machine_laws.specs.LineEvents.{line_ask, line_commit, line_settle}
use Rattle.svc_machine_laws.specs.MachineLaws.{Taken, HasEnded, IsWithin}
use Rattle.svc_machine_laws.specs.Reached.{AreItsLines}
use Rattle.svc_machine_laws.proofs.EditedLists.{map_append_one, map_take, map_edit, edit_same}
use Rattle.svc_machine_laws.proofs.Lines.{line_turn_step, line_commit_step}
use Rattle.svc_machine_laws.proofs.LineUnits.{turn_units, turn_keeps}
use Rattle.svc_machine_laws.proofs.Places.{not_found}
use Rattle.svc_machine_laws.proofs.Steps.{map_runs, assign_step, cancel_step, commit_step}
use Rattle.svc_machine_laws.proofs.Submits.{submit_step}

module _ (img : Image) (config : Config) where
  abbrev p : Program State
  p = program img

  pub lines_assign : (s : Plain) (t : LineTable) (unit guess : ℕ) → unit < config.units → task_place s unit ≡ None → AreItsLines img config s t → AreItsLines img config (plain.assign p s unit guess) (begin t unit)
  lines_assign s t unit guess known idle are =
      let cached : unit < t.caches = let e = are.caches in omega (arith, e, known) in
      let alone : (q : ℕ) → q < length t.units → unit_at t q ≢ unit =
      subst (λ us. (q : ℕ) → q < length us → get_or us q 0 ≢ unit) (sym are.units) (λ q. not_found (map unit_of s.tasks) unit q idle) in
      let new : Task = record { unit = unit; epoch = s.epoch; entry = entry_for (seq p s.commits).due (map entry_of s.tasks) guess; turns = 0 } in
      record {
        sound = begin_sound t unit are.sound cached alone;
        same_map = begin_map t unit are.sound cached alone ∙ ap map_of.begin are.same_map ∙ ap (λ (m : Machine State). m.versioned) (sym (assign_step p s unit guess));
        units = ap (λ us. us ++ unit ∷ []) are.units ∙ sym (map_append_one unit_of s.tasks new);
        caches = are.caches;
        sets = are.sets;
        ways = are.ways;
        words = are.words;
      }

  -- the units of the tasks after a turn
  turned_units : (s : Plain) (place local : ℕ) (end : State) (w : Want State) → Taken p s place local end (Some w)
      → map unit_of (plain.submit p s place local true).tasks ≡ edit place (λ u. u) (cut_by w (machine_of p s).versioned.rows place) (map unit_of s.tasks)
  turned_units s place local end w t =
      let m : Machine State = machine_of p s in
      let next : Plain = plain.submit p s place local true in
      let cut : Option ℕ = cut_by w m.versioned.rows place in
      let turn : Seat State → Seat State = λ z. seat_turn w (memory_seen m.versioned place) (at_core end z) in
      sym (map_runs p seat_unit unit_of (λ x. refl) (seq p s.commits).memory next.tasks)
      ∙ ap (λ (n : Machine State). map seat_unit n.seats) (submit_step p s place local end (Some w) t)
      ∙ map_edit seat_unit turn (λ u. u) place cut m.seats (λ z h. same_unit w (memory_seen m.versioned place) (at_core end z))
      ∙ ap (edit place (λ u. u) cut) (map_runs p seat_unit unit_of (λ x. refl) (seq p s.commits).memory s.tasks)
    where
      same_unit : (w : Want State) (look : Memory) (z : Seat State) → (seat_turn w look z).unit ≡ z.unit
      same_unit (Rattle.svc_core_laws.specs.Program.Local c) look z = refl
      same_unit (Rattle.svc_core_laws.specs.Program.Load a value go) look z = refl
      same_unit (Rattle.svc_core_laws.specs.Program.Store a v c) look z = refl
      same_unit (Rattle.svc_core_laws.specs.Program.Narrow a f c) look z = refl
      same_unit (Rattle.svc_core_laws.specs.Program.Emit v c) look z = refl

  pub lines_ask : (s : Plain) (t : LineTable) (place local : ℕ) (end : State) (ask : Option (Want State)) → place < length s.tasks
      → ((w : Want State) → ask ≡ Some w → IsWithin t.words w)
      → Taken p s place local end ask → AreItsLines img config s t → AreItsLines img config (plain.submit p s place local (is_some ask)) (line_ask ask t place)
  lines_ask s t place local end None inside known tk are = record {
    sound = are.sound;
    same_map = are.same_map ∙ ap (λ (m : Machine State). m.versioned) (sym (submit_step p s place local end None tk));
    units = are.units ∙ sym (map_edit unit_of (plain.more local) (λ u. u) place None s.tasks (λ x h. refl) ∙ edit_same place (map unit_of s.tasks));
    caches = are.caches;
    sets = are.sets;
    ways = are.ways;
    words = are.words;
  }
  lines_ask s t place local end (Some w) inside known tk are =
      let m : Machine State = machine_of p s in
      let here : place < length t.units = let e = ap length are.units in let f = count unit_of s.tasks in omega (arith, e, f, inside) in
      let step = line_turn_step w t place are.sound here (known w refl) in
      record {
        sound = step.sound;
        same_map = step.same_map ∙ ap (λ v. whole.map_turn w v place) are.same_map ∙ ap (λ (m : Machine State). m.versioned) (sym (submit_step p s place local end (Some w) tk));
        units = turn_units w t place are.sound here (known w refl)
            ∙ ap (λ (v : Versioned). edit place (λ u. u) (cut_by w v.rows place) t.units) are.same_map
            ∙ ap (edit place (λ u. u) (cut_by w m.versioned.rows place)) are.units
            ∙ sym (turned_units s place local end w tk);
        caches = turn_keeps (λ u. u.caches) w t place (λ u a. refl) (λ u a. refl) (λ u a v. refl) ∙ are.caches;
        sets = turn_keeps (λ u. u.sets) w t place (λ u a. refl) (λ u a. refl) (λ u a v. refl) ∙ are.sets;
        ways = turn_keeps (λ u. u.ways) w t place (λ u a. refl) (λ u a. refl) (λ u a v. refl) ∙ are.ways;
        words = turn_keeps (λ u. u.words) w t place (λ u a. refl) (λ u a. refl) (λ u a v. refl) ∙ are.words;
      }
    where
      count : {A B : Type 0} (f : A → B) (xs : List A) → length (map f xs) ≡ length xs
      count f [] = refl
      count f (x ∷ xs) = ap suc (count f xs)

  pub lines_replace : (s : Plain) (t : LineTable) (unit a : ℕ) → is_pinned (table_cache t unit) t.units unit a ≡ false → AreItsLines img config s t → AreItsLines img config (plain.replace s) (replace t unit a)
  lines_replace s t unit a free are = record {
    sound = replace_sound t unit a are.sound (unpinned_head t unit a free);
    same_map = replace_map t unit a are.sound (unpinned_head t unit a free) ∙ are.same_map;
    units = are.units;
    caches = are.caches;
    sets = are.sets;
    ways = are.ways;
    words = are.words;
  }

  pub lines_cancel : (s : Plain) (t : LineTable) (place : ℕ) → 0 < place → place ≤ length t.units → AreItsLines img config s t → AreItsLines img config (plain.cancel s place) (squash t place)
  lines_cancel s t place some inside are =
      let law = squash_law t place are.sound some inside in
      record {
        sound = law.0;
        same_map = law.1 ∙ ap (λ v. map_of.squash v place) are.same_map ∙ ap (λ (m : Machine State). m.versioned) (sym (cancel_step p s place));
        units = ap (take place) are.units ∙ sym (map_take unit_of place s.tasks);
        caches = are.caches;
        sets = are.sets;
        ways = are.ways;
        words = are.words;
      }

  committed_units : (t : LineTable) (keep : Bool) → (commit (line_settle t keep)).units ≡ cond keep (drop 1 t.units) (drop 1 (take 1 t.units))
  committed_units t true = refl
  committed_units t false = refl

  committed_keeps : {X : Type 0} (f : LineTable → X) (t : LineTable) (keep : Bool) → f (commit t) ≡ f t → f (commit (squash t 1)) ≡ f t → f (commit (line_settle t keep)) ≡ f t
  committed_keeps f t true e g = e
  committed_keeps f t false e g = g

  kept_units : (b : Bool) (u : ℕ) (ts : List Task) → cond b (map unit_of ts) (drop 1 (take 1 (u ∷ map unit_of ts))) ≡ map unit_of (cond b ts [])
  kept_units true u ts = refl
  kept_units false u ts = refl

  commit_lines : IsProgram p → (k a e : ℕ) (ts : List Task) (t : LineTable) (x : Running State) (ended : End)
      → let s : Plain = record { commits = k; accepted = a; epoch = e; tasks = ts } in
      slice_get (running p s) 0 ≡ Some x → IsDue (seq p k).due ts → HasEnded p s → AreItsLines img config s t
      → AreItsLines img config (plain.commit p s) (line_commit p t (machine_of p s).seats)
  commit_lines good k a e [] t x ended here due done are = absurd (none-some x here)
  commit_lines good k a e (tk ∷ ts) t x ended here due done are =
      let s : Plain = record { commits = k; accepted = a; epoch = e; tasks = tk ∷ ts } in
      let r : Run State = part p tk.entry tk.turns (seq p k).memory in
      let rest : List (Seat State) = map seat_of (runs_of p (over (wrote r.log) (seq p k).memory) ts) in
      let keep : Bool = stays r.core.done (map seat_entry rest) in
      let same : map seat_entry rest ≡ map entry_of ts = map_runs p seat_entry entry_of (λ y. refl) (over (wrote r.log) (seq p k).memory) ts in
      let some : 0 < length t.units = let n = ap length are.units in omega (arith, n) in
      let step = line_commit_step t keep are.sound some in
      record {
        sound = step.sound;
        same_map = step.same_map ∙ ap (λ v. rows.commit (settle v keep)) are.same_map ∙ ap (λ (m : Machine State). m.versioned) (sym (commit_step p good s due done));
        units = committed_units t keep
            ∙ ap (λ us. cond keep (drop 1 us) (drop 1 (take 1 us))) are.units
            ∙ kept_units keep tk.unit ts
            ∙ ap (λ es. map unit_of (cond (stays r.core.done es) ts [])) same;
        caches = committed_keeps (λ u. u.caches) t keep refl refl ∙ are.caches;
        sets = committed_keeps (λ u. u.sets) t keep refl refl ∙ are.sets;
        ways = committed_keeps (λ u. u.ways) t keep refl refl ∙ are.ways;
        words = committed_keeps (λ u. u.words) t keep refl refl ∙ are.words;
      }

  pub lines_commit : IsProgram p → (s : Plain) (t : LineTable) (x : Running State)
      → slice_get (running p s) 0 ≡ Some x → IsDue (seq p s.commits).due s.tasks → (done : HasEnded p s) → AreItsLines img config s t
      → AreItsLines img config (plain.commit p s) (line_commit p t (machine_of p s).seats)
  lines_commit good s t x here due done are = commit_lines good s.commits s.accepted s.epoch s.tasks t x done.end here due done are
