-- Each task that was begun is committed, cut or active.
use Rattle.std.proofs.Common.{ℕ, zero, suc, ◌≡◌, ◌+◌, ◌<◌, ◌≤◌, Bool, true, false, cond, List, [], ◌∷◌, map, take, length, Option, Some, None, refl, sym, ap, ◌∙◌, is_some, option_map, slice_get, arith, length-append}
use Rattle.std.proofs.lemmas.Option.{none-some}
use Rattle.svc_base.specs.declared.config.Config.{Config}
use Rattle.svc_image.specs.Image.{Image}
use Rattle.svc_core_laws.specs.State.{State}
use Rattle.svc_core_laws.specs.Program.{Program, Want, Local, Load, Store, Narrow, Emit, part, seq}
use Rattle.svc_core_laws.specs.Words.{program}
use Rattle.svc_bus_laws.specs.Versioned.{Row, with_head}
use Rattle.svc_bus_laws.specs.ByRows.{victim_after, edit}
use Rattle.svc_bus_laws.specs.LineTable.{LineTable}
use Rattle.svc_bus_laws.proofs.ByRowsLaws.{victim_by_rows}
use Rattle.svc_bus_laws.proofs.MapViews.{victim_is}
use Rattle.svc_machine_laws.specs.declared.reply.Cause.TheVariants as cause
use Rattle.svc_machine_laws.specs.declared.reply.Reply.{Reply}
use Rattle.svc_machine_laws.specs.PlainMachine.{Task, Plain, Running, runs_of, running, row_of, cut_by, entry_of, stays}
use Rattle.svc_machine_laws.specs.PlainMachine as plain
use Rattle.svc_machine_laws.specs.WholeMachine.{Machine, Seat, machine_of, seat_of, seat_turn, at_core, memory_seen}
use Rattle.svc_machine_laws.specs.MachineLaws.{Taken}
use Rattle.svc_machine_laws.specs.Events.{Event, Assign, Submit, Replace, Cancel, Commit, IsEvent, task_place, asked_want, plain_event, plain_submit, plain_cancel}
use Rattle.svc_machine_laws.specs.Replies.{turn_cut, cut_from, wrong_guess, whole_asked, whole_submitted, whole_reply, plain_cancelled, plain_committed, plain_reply}
use Rattle.svc_machine_laws.specs.Standing.{Standing, refusal_of, standing_after, reply_to, is_commit}
use Rattle.svc_machine_laws.specs.Blame.{tasks_cut, tasks_begun}
use Rattle.svc_machine_laws.proofs.Given.{Given}
use Rattle.svc_machine_laws.proofs.Accepted.{can_submit, can_cancel, can_commit, seat_places}
use Rattle.svc_machine_laws.specs.Replies.{reply_after_check, plain_asked, plain_submitted}
use Rattle.svc_machine_laws.proofs.Checks.{misled_within}
use Rattle.svc_machine_laws.proofs.Answering.{count, asked_reply}
use Rattle.svc_machine_laws.proofs.Followed.{edit_count, map_count}
use Rattle.svc_machine_laws.proofs.MachineEvents.{taken}
use Rattle.svc_machine_laws.proofs.Places.{found, within}
use Rattle.svc_machine_laws.proofs.Submits.{submit_step}

take_count : {A : Type 0} (n : ℕ) (xs : List A) → n ≤ length xs → length (take n xs) ≡ n
take_count zero xs h = refl
take_count (suc n) [] h = absurd (omega (arith, h))
take_count (suc n) (x ∷ xs) h = ap suc (take_count n xs (omega (arith, h)))

-- how many things an edit leaves that cuts
cut_count : {A : Type 0} (place n : ℕ) (f : A → A) (xs : List A) → suc place + n ≤ length xs → length (edit place f (Some n) xs) ≡ suc place + n
cut_count place n f [] h = absurd (omega (arith, h))
cut_count zero n f (x ∷ xs) h = let ih = take_count n xs (omega (arith, h)) in omega (arith, ih)
cut_count (suc place) n f (x ∷ xs) h = let ih = cut_count place n f xs (omega (arith, h)) in omega (arith, ih)

head_count : (rows : List Row) → length (with_head rows) ≡ length rows
head_count [] = refl
head_count (row ∷ rows) = refl

-- the tasks that a turn leaves and those that it cuts are all
module _ (p : Program State) (s : Plain) (place : ℕ) (inside : place < length s.tasks) where
  abbrev m : Machine State
  m = machine_of p s

  seats : length m.seats ≡ length s.tasks
  seats = count p (seq p s.commits).memory s.tasks

  victim_cuts : (f : Seat State → Seat State) (a : ℕ) (o : Option ℕ) → victim_after m.versioned.rows place a ≡ o
      → length (edit place f o m.seats) + tasks_cut (option_map (λ n. cut_from (cause.Violation (record { 0 = a })) s.commits (length m.seats) (suc place + n)) o) ≡ length s.tasks
  victim_cuts f a None e = let n = edit_count place f m.seats in omega (arith, n, seats)
  victim_cuts f a (Some n) e =
      let is = victim_is m.versioned place a (suc place + n) (victim_by_rows m.versioned place a ∙ ap (option_map (λ i. suc place + i)) e) in
      let all : length m.versioned.rows ≡ length s.tasks = head_count (map row_of (running p s)) ∙ map_count row_of (running p s) ∙ sym (map_count seat_of (running p s)) ∙ seats in
      let active = is.active in
      let left = cut_count place n f m.seats (omega (arith, active, all, seats)) in
      omega (arith, left, seats, active, all)

  turn_cuts : (f : Seat State → Seat State) (w : Want State) → length (edit place f (cut_by w m.versioned.rows place) m.seats) + tasks_cut (turn_cut w m.versioned.rows s.commits (length m.seats) place) ≡ length s.tasks
  turn_cuts f (Local c) = let n = edit_count place f m.seats in omega (arith, n, seats)
  turn_cuts f (Load a value go) = let n = edit_count place f m.seats in omega (arith, n, seats)
  turn_cuts f (Store a v c) = victim_cuts f a (victim_after m.versioned.rows place a) refl
  turn_cuts f (Narrow a g c) = victim_cuts f a (victim_after m.versioned.rows place a) refl
  turn_cuts f (Emit v c) = let n = edit_count place f m.seats in omega (arith, n, seats)

  submit_cuts : (t : LineTable) (local : ℕ) (last : State) (ask : Option (Want State)) → Taken p s place local last ask
      → length (plain.submit p s place local (is_some ask)).tasks + tasks_cut (whole_asked p m t place ask).cut ≡ length s.tasks
  submit_cuts t local last None tk = let n = edit_count place (plain.more local) s.tasks in omega (arith, n)
  submit_cuts t local last (Some w) tk =
      let after : Plain = plain.submit p s place local true in
      let turn : Seat State → Seat State = λ z. seat_turn w (memory_seen m.versioned place) (at_core last z) in
      let same : length (machine_of p after).seats ≡ length (edit place turn (cut_by w m.versioned.rows place) m.seats) = ap (λ (n : Machine State). length n.seats) (submit_step p s place local last (Some w) tk) in
      let left = count p (seq p after.commits).memory after.tasks in
      let cuts = turn_cuts turn w in
      omega (arith, same, left, cuts)

-- and those that the check cuts besides
check_cuts : (p : Program State) (s a : Plain) (place : ℕ) (r : Reply) → length a.tasks + tasks_cut r.cut ≡ length s.tasks
    → length (plain.check p a place).tasks + tasks_cut (reply_after_check (plain.is_misled p a place) s.commits (length s.tasks) place r).cut ≡ length s.tasks
check_cuts p s a place r h = of (plain.is_misled p a place) refl
  where
    of : (b : Bool) → plain.is_misled p a place ≡ b → length (cond b (plain.keep (suc place) a) a).tasks + tasks_cut (reply_after_check b s.commits (length s.tasks) place r).cut ≡ length s.tasks
    of false e = h
    of true e =
        let inside = misled_within p a place e in
        let left = take_count (suc place) a.tasks (omega (arith, inside)) in
        omega (arith, left, inside, h)

rest_cuts : (k : ℕ) (b : Bool) (ts : List Task) → length (cond b ts []) + tasks_cut (cond b None (wrong_guess k ts)) ≡ length ts
rest_cuts k true ts = omega arith
rest_cuts k false [] = refl
rest_cuts k false (t ∷ ts) = omega arith

commit_cuts : (p : Program State) (s : Plain) (ts : List Task) (x : Running State) → slice_get (runs_of p (seq p s.commits).memory ts) 0 ≡ Some x
    → length (plain.commit_tasks p s ts).tasks + tasks_cut (plain_committed p s.commits ts).cut + 1 ≡ length ts
commit_cuts p s [] x here = absurd (none-some x here)
commit_cuts p s (t ∷ ts) x here =
    let r = rest_cuts s.commits (stays (p.done (part p t.entry t.turns (seq p s.commits).memory).core) (map entry_of ts)) ts in
    omega (arith, r)

pub all_counted : (img : Image) → Given img → (config : Config) (s : Standing) (x : Event) → IsEvent x → refusal_of img config s x ≡ None
    → length (standing_after img s x).plain.tasks + tasks_cut (reply_to img s x).cut + is_commit x ≡ length s.plain.tasks + tasks_begun x
unfolding standing_after plain_event reply_to plain_reply whole_reply
all_counted img given config s (Assign unit guess) is ok =
    let n : length (plain.assign (program img) s.plain unit guess).tasks ≡ length s.plain.tasks + 1 = length-append s.plain.tasks _ in
    omega (arith, n)
all_counted img given config s (Submit b) is ok =
    let p : Program State = program img in
    let can = can_submit img config s b ok in
    let units = map_count plain.unit_of s.plain.tasks in
    let spot = within (map plain.unit_of s.plain.tasks) can.place b.unit.0 (found (map plain.unit_of s.plain.tasks) b.unit.0 can.place can.at) in
    let tk = taken img given config s b is can in
    let ask : Option (Want State) = asked_want img b in
    let after : Plain = plain.submit p s.plain can.place b.local (is_some ask) in
    let turn = submit_cuts p s.plain can.place (omega (arith, units, spot)) s.lines b.local b.end ask tk in
    let same = ap (λ (r : Reply). tasks_cut r.cut) (asked_reply p s.plain s.lines can.place b.local b.end ask tk) in
    let cuts = check_cuts p s.plain after can.place (plain_asked p s.plain s.lines can.place b.local (is_some ask)) (omega (arith, turn, same)) in
    let left = ap (λ o. length (plain_submit img s.plain o b).tasks) can.at in
    let gone = ap (λ o. tasks_cut (plain_submitted p s.plain s.lines o b.local (is_some ask)).cut) can.at in
    omega (arith, cuts, left, gone)
all_counted img given config s (Replace unit a) is ok = omega arith
all_counted img given config s (Cancel unit) is ok =
    let can = can_cancel img config s unit ok in
    let units = map_count plain.unit_of s.plain.tasks in
    let spot = within (map plain.unit_of s.plain.tasks) can.place unit (found (map plain.unit_of s.plain.tasks) unit can.place can.at) in
    let left = ap (λ o. length (plain_cancel s.plain o).tasks) can.at ∙ take_count can.place s.plain.tasks (omega (arith, units, spot)) in
    let gone = ap (λ o. tasks_cut (plain_cancelled s.plain o).cut) can.at in
    omega (arith, left, gone, units, spot)
all_counted img given config s (Commit by) is ok =
    let can = can_commit img config s by ok in
    let cuts = commit_cuts (program img) s.plain s.plain.tasks can.run can.here in
    omega (arith, cuts)
