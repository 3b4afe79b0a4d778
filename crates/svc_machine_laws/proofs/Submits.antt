-- A submit: what the whole machine does over its versioned map is what the plain machine says.
use Rattle.std.proofs.Common.{ℕ, zero, suc, ◌≡◌, true, List, [], ◌∷◌, map, Option, Some, None, refl, sym, ap, ap₂, ◌∙◌, subst, is_some, slice_get}
use Rattle.std.proofs.lemmas.Option.{same_Some, none-some}
use Rattle.svc_core_laws.specs.Program.{Memory, Want, Program, Run, wrote, over, part, Seq, seq, locals, are_local}
use Rattle.svc_bus_laws.specs.Versioned.{Row, with_head}
use Rattle.svc_bus_laws.specs.ByRows.{view_of, edit}
use Rattle.svc_machine_laws.specs.PlainMachine.{Task, Plain, Running, runs_of, running, row_of, more, cut_by, take_turn_by, take_turn, submit}
use Rattle.svc_machine_laws.specs.WholeMachine.{Seat, Machine, seat_of, machine_of, at_core, seat_turn, with_seats}
use Rattle.svc_machine_laws.specs.WholeMachine as whole
use Rattle.svc_machine_laws.specs.MachineLaws.{Taken}
use Rattle.svc_machine_laws.proofs.EditedLists.{map_edit, edit_same, edit_edit, cut_by_hide, view_hide}
use Rattle.svc_machine_laws.proofs.Runs.{turned, turn_at}
use Rattle.svc_machine_laws.proofs.TurnRows.{row_turn, row_turned, seat_turned, map_turn_rows}
use Rattle.svc_machine_laws.proofs.Parts.{part_locals}

-- local turns of one task are local turns of its run
abbrev pub local_run : {C : Type 0} → Program C → ℕ → Running C → Running C
local_run p n x = record { task = more n x.task; run = record { core = locals p n x.run.core; log = x.run.log } }

pub local_at : {C : Type 0} (p : Program C) (n : ℕ) (m : Memory) (ts : List Task) (place : ℕ) → ((x : Running C) → slice_get (runs_of p m ts) place ≡ Some x → are_local p n x.run.core ≡ true)
    → runs_of p m (edit place (more n) None ts) ≡ edit place (local_run p n) None (runs_of p m ts)
local_at p n m [] place h = refl
local_at {C} p n m (t ∷ ts) zero h =
    let r : Run C = part p t.entry t.turns m in
    let here : Running C = record { task = t; run = r } in
    ap {B = List (Running C)} (λ q. record { task = more n t; run = q } ∷ runs_of p (over (wrote q.log) m) ts) (part_locals p t.entry n t.turns m (h here refl))
local_at {C} p n m (t ∷ ts) (suc place) h =
    let r : Run C = part p t.entry t.turns m in
    let here : Running C = record { task = t; run = r } in
    ap {B = List (Running C)} (λ q. here ∷ q) (local_at p n (over (wrote r.log) m) ts place h)

-- the thing at an edited place
pub at_edited : {A : Type 0} (place : ℕ) (f : A → A) (xs : List A) (x : A) → slice_get xs place ≡ Some x → slice_get (edit place f None xs) place ≡ Some (f x)
at_edited place f [] x h = absurd (none-some x h)
at_edited zero f (y ∷ xs) x h = ap (λ z. Some (f z)) (same_Some y x h)
at_edited (suc place) f (y ∷ xs) x h = at_edited place f xs x h

-- local turns of the run at a place, and then the turn that is wanted there
abbrev pub asked_run : {C : Type 0} → Program C → ℕ → Want C → Memory → Running C → Running C
asked_run p n w look x = turned w look (local_run p n x)

module _ {C : Type 0} (p : Program C) (n : ℕ) (m : Memory) (ts : List Task) (place : ℕ) (x : Running C) (at : slice_get (runs_of p m ts) place ≡ Some x) (own : are_local p n x.run.core ≡ true) where
  abbrev pub runs : List (Running C)
  runs = runs_of p m ts

  abbrev pub rows : List Row
  rows = map row_of runs

  pub local_runs : runs_of p m (edit place (more n) None ts) ≡ edit place (local_run p n) None runs
  local_runs = local_at p n m ts place (λ y h. subst (λ (z : Running C). are_local p n z.run.core ≡ true) (same_Some x y (sym at ∙ h)) own)

  local_rows : map row_of (edit place (local_run p n) None runs) ≡ rows
  local_rows = map_edit row_of (local_run p n) (λ r. r) place None runs (λ y h. refl) ∙ edit_same place rows

  pub asked_runs : runs_of p m (take_turn p m (edit place (more n) None ts) place)
      ≡ edit place (asked_run p n (p.want (locals p n x.run.core)) (view_of rows m place)) (cut_by (p.want (locals p n x.run.core)) rows place) runs
  asked_runs =
      let now : List Task = edit place (more n) None ts in
      let later : List (Running C) = runs_of p m now in
      let y : Running C = local_run p n x in
      let w : Want C = p.want y.run.core in
      let here : slice_get later place ≡ Some y = ap (λ l. slice_get l place) local_runs ∙ at_edited place (local_run p n) runs x at in
      let same : map row_of later ≡ rows = ap (map row_of) local_runs ∙ local_rows in
      ap (λ o. runs_of p m (take_turn_by p later now place o)) here
      ∙ turn_at p m now place y here
      ∙ ap (λ q. edit place (turned w (view_of q m place)) (cut_by w q place) later) same
      ∙ ap (edit place (turned w (view_of rows m place)) (cut_by w rows place)) local_runs
      ∙ edit_edit place (local_run p n) (turned w (view_of rows m place)) (cut_by w rows place) runs

-- what the machine is, by the sequential run, the counts and the runs
abbrev pub machine_by : {C : Type 0} → Seq → ℕ → ℕ → ℕ → List (Running C) → Machine C
machine_by q k accepted epoch runs =
    record {
      versioned = record { commits = k; committed = q.memory; rows = with_head (map row_of runs) };
      seats = map seat_of runs;
      output = q.output;
      due = q.due;
      stopped = q.stopped;
      accepted = accepted;
      epoch = epoch;
    }

module _ {C : Type 0} (p : Program C) (s : Plain) (place n : ℕ) (end : C) where
  abbrev q : Seq
  q = seq p s.commits

  abbrev all : List (Running C)
  all = running p s

  -- the machine with these rows and seats
  abbrev made : List Row → List (Seat C) → Machine C
  made rows seats = with_seats (machine_of p s) (record { commits = s.commits; committed = q.memory; rows = with_head rows }) seats

  taken_step : (ask : Option (Want C)) → Taken p s place n end ask → machine_of p (submit p s place n (is_some ask)) ≡ whole.submit (machine_of p s) place end ask
  taken_step None t =
      let seats : map seat_of (edit place (local_run p n) None all) ≡ edit place (at_core end) None (map seat_of all) =
      map_edit seat_of (local_run p n) (at_core end) place None all (λ y h. ap (λ c. at_core c (seat_of y)) (subst (λ (z : Running C). locals p n z.run.core ≡ end) (same_Some t.run y (sym t.at ∙ h)) t.end_is)) in
      ap (machine_by q s.commits (suc s.accepted) s.epoch) (local_runs p n q.memory s.tasks place t.run t.at t.own)
      ∙ ap₂ made (local_rows p n q.memory s.tasks place t.run t.at t.own) seats
  taken_step (Some w) t =
      let rows : List Row = map row_of all in
      let look : Memory = view_of rows q.memory place in
      let seen : Memory = view_of (with_head rows) q.memory place in
      let same : look ≡ seen = sym (view_hide rows q.memory place) in
      let cut : Option ℕ = cut_by w rows place in
      let wants : p.want (locals p n t.run.run.core) ≡ w = ap p.want t.end_is ∙ t.ask_is w refl in
      let row_list : map row_of (edit place (asked_run p n w seen) cut all) ≡ edit place (row_turn w seen) cut rows =
      map_edit row_of (asked_run p n w seen) (row_turn w seen) place cut all (λ y h. row_turned w seen (local_run p n y)) in
      let seat_list : map seat_of (edit place (asked_run p n w seen) cut all) ≡ edit place (λ z. seat_turn w seen (at_core end z)) cut (map seat_of all) =
      map_edit seat_of (asked_run p n w seen) (λ z. seat_turn w seen (at_core end z)) place cut all
      (λ y h.
      seat_turned w seen (local_run p n y)
      ∙ ap (λ c. seat_turn w seen (at_core c (seat_of y))) (subst (λ (z : Running C). locals p n z.run.core ≡ end) (same_Some t.run y (sym t.at ∙ h)) t.end_is)) in
      ap (machine_by q s.commits (suc s.accepted) s.epoch) (asked_runs p n q.memory s.tasks place t.run t.at t.own)
      ∙ ap (λ v. machine_by q s.commits (suc s.accepted) s.epoch (edit place (asked_run p n v look) (cut_by v rows place) all)) wants
      ∙ ap (λ l. machine_by q s.commits (suc s.accepted) s.epoch (edit place (asked_run p n w l) cut all)) same
      ∙ ap₂ made row_list seat_list
      ∙ ap₂ (λ a b. with_seats (machine_of p s) a (edit place (λ z. seat_turn w seen (at_core end z)) b (map seat_of all)))
      (sym (map_turn_rows w s.commits q.memory rows place)) (sym (cut_by_hide w rows place))

-- A SUBMIT
pub submit_step : {C : Type 0} (p : Program C) (s : Plain) (place local : ℕ) (end : C) (ask : Option (Want C)) → Taken p s place local end ask
    → machine_of p (submit p s place local (is_some ask)) ≡ whole.submit (machine_of p s) place end ask
submit_step p s place local end ask t = taken_step p s place local end ask t
