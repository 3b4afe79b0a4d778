-- Each accepted event adds its answer to the log of its task, and a committed log is the sequential answers.
use Rattle.std.proofs.Common.{ℕ, suc, length, ◌≡◌, Bool, true, false, cond, List, [], ◌∷◌, ◌++◌, map, take, Option, Some, None, refl, sym, ap, ◌∙◌, subst, is_some, slice_get, unwrap_or}
use Rattle.std.proofs.lemmas.Option.{none-some, same_Some}
use Rattle.svc_base.specs.declared.config.Config.{Config}
use Rattle.svc_base.specs.declared.served.Served.{Served}
use Rattle.svc_image.specs.Image.{Image}
use Rattle.svc_core_laws.specs.declared.end.End.{End}
use Rattle.svc_core_laws.specs.State.{State}
use Rattle.svc_core_laws.specs.Program.{Memory, Program, Want, Local, Load, Store, Narrow, Emit, Run, Action, act, wrote, over, part, task, seq, task_log, due_run, end_of_run, log_of_run, locals, IsProgram}
use Rattle.svc_core_laws.specs.Words.{program}
use Rattle.svc_bus_laws.specs.Versioned.{Row}
use Rattle.svc_bus_laws.specs.ByRows.{view_of, edit}
use Rattle.svc_bus_laws.specs.LineTable.{LineTable}
use Rattle.svc_core_laws.specs.declared.end.End.TheVariants as end
use Rattle.svc_machine_laws.specs.declared.reply.Reply.{Reply}
use Rattle.svc_machine_laws.specs.declared.reply.What.TheVariants as what
use Rattle.svc_machine_laws.specs.PlainMachine.{Task, Plain, Running, IsDue, runs_of, running, row_of, cut_by, entry_of, entry_for, stays, staying_tasks}
use Rattle.svc_machine_laws.specs.PlainMachine as plain
use Rattle.svc_machine_laws.specs.WholeMachine.{machine_of, memory_seen}
use Rattle.svc_machine_laws.specs.MachineLaws.{Taken, HasEnded}
use Rattle.svc_machine_laws.specs.Events.{Event, Assign, Submit, Replace, Cancel, Commit, IsEvent, task_place, asked_want, plain_event, plain_submit, plain_cancel}
use Rattle.svc_machine_laws.specs.Replies.{turn_done, serves_at, whole_asked, whole_submitted, whole_reply, plain_committed, plain_reply}
use Rattle.svc_machine_laws.specs.Standing.{Standing, refusal_of, standing_after, reply_to}
use Rattle.svc_machine_laws.specs.Reached.{IsReached}
use Rattle.svc_machine_laws.specs.Logs.{TaskLog, log_of, logs_of, action_of, plus, adds, AddsItsAnswer, CommitsAnswers, LogsFollow, TellsTheEnd}
use Rattle.svc_machine_laws.proofs.Given.{Given}
use Rattle.svc_machine_laws.proofs.Accepted.{can_submit, can_cancel, can_commit, seat_places}
use Rattle.svc_machine_laws.specs.declared.reply.What.{What}
use Rattle.svc_machine_laws.specs.Replies.{reply_after_check, plain_submitted}
use Rattle.svc_machine_laws.proofs.Checks.{take_edit}
use Rattle.svc_machine_laws.proofs.Answering.{asked_reply}
use Rattle.svc_machine_laws.proofs.EditedLists.{map_append_one, map_take, map_edit, view_hide}
use Rattle.svc_machine_laws.proofs.MachineEvents.{taken, head_ended}
use Rattle.svc_machine_laws.proofs.Parts.{part_whole, seq_commit}
use Rattle.svc_machine_laws.proofs.Steps.{runs_append, runs_take}
use Rattle.svc_machine_laws.proofs.Submits.{local_run, local_runs, asked_run, asked_runs}

-- a turn puts on the log what its answer tells
act_tells : {C : Type 0} (p : Program C) (w : Want C) (look : Memory) (serves : ℕ → Served) (log : List Action) → (act w look log).log ≡ plus (action_of (turn_done p w look serves)) log
act_tells p (Local c) look serves log = refl
act_tells p (Load a value go) look serves log = refl
act_tells p (Store a v c) look serves log = refl
act_tells p (Narrow a f c) look serves log = refl
act_tells p (Emit v c) look serves log = refl

assign_logs : {C : Type 0} (p : Program C) (s : Plain) (unit guess : ℕ) → logs_of p (plain.assign p s unit guess) ≡ logs_of p s ++ record { unit = unit; log = [] } ∷ []
assign_logs p s unit guess =
    ap (map log_of) (runs_append p (seq p s.commits).memory s.tasks unit s.epoch (entry_for (seq p s.commits).due (map entry_of s.tasks) guess))
    ∙ map_append_one log_of (running p s) _

cancel_logs : {C : Type 0} (p : Program C) (s : Plain) (place : ℕ) → logs_of p (plain.cancel s place) ≡ take place (logs_of p s)
cancel_logs p s place = ap (map log_of) (runs_take p (seq p s.commits).memory place s.tasks) ∙ map_take log_of place (running p s)

submit_logs : {C : Type 0} (p : Program C) (s : Plain) (t : LineTable) (unit place local : ℕ) (last : C) (ask : Option (Want C)) → task_place s unit ≡ Some place → Taken p s place local last ask
    → AddsItsAnswer p s (plain.submit p s place local (is_some ask)) unit (whole_asked p (machine_of p s) t place ask).what
submit_logs p s t unit place local last None at tk = record {
  place = place;
  at = at;
  cut = None;
  logs = ap (map log_of) (local_runs p local (seq p s.commits).memory s.tasks place tk.run tk.at tk.own)
      ∙ map_edit log_of (local_run p local) (adds None) place None (running p s) (λ x h. refl);
}
submit_logs {C} p s t unit place local last (Some w) at tk =
    let m : Memory = (seq p s.commits).memory in
    let all : List (Running C) = running p s in
    let rows : List Row = map row_of all in
    let look : Memory = view_of rows m place in
    let sees : Memory = memory_seen (machine_of p s).versioned place in
    let same : look ≡ sees = sym (view_hide rows m place) in
    let wants : p.want (locals p local tk.run.run.core) ≡ w = ap p.want tk.end_is ∙ tk.ask_is w refl in
    record {
      place = place;
      at = at;
      cut = cut_by w rows place;
      logs = ap (map log_of) (asked_runs p local m s.tasks place tk.run tk.at tk.own)
          ∙ ap (λ v. map log_of (edit place (asked_run p local v look) (cut_by v rows place) all)) wants
          ∙ ap (λ l. map log_of (edit place (asked_run p local w l) (cut_by w rows place) all)) same
          ∙ map_edit log_of (asked_run p local w sees) (adds (action_of (turn_done p w sees (serves_at t place)))) place (cut_by w rows place) all
          (λ x h. ap {B = TaskLog} (λ l. record { unit = x.task.unit; log = l }) (act_tells p w sees (serves_at t place) x.run.log));
    }

-- the check leaves the log of the task at its place, and none after it
check_logs : {C : Type 0} (p : Program C) (s a : Plain) (unit : ℕ) (done : What) (r : AddsItsAnswer p s a unit done) → AddsItsAnswer p s (plain.check p a r.place) unit done
check_logs {C} p s a unit done r = of (plain.is_misled p a r.place)
  where
    of : (b : Bool) → AddsItsAnswer p s (cond b (plain.keep (suc r.place) a) a) unit done
    of false = r
    of true = record {
      place = r.place;
      at = r.at;
      cut = Some 0;
      logs = cancel_logs p a (suc r.place) ∙ ap (take (suc r.place)) r.logs ∙ take_edit r.place (adds (action_of done)) r.cut (logs_of p s);
    }

pub checked_what : (b : Bool) (k n place : ℕ) (r : Reply) → (reply_after_check b k n place r).what ≡ r.what
checked_what true k n place r = refl
checked_what false k n place r = refl

commit_tasks_logs : {C : Type 0} (p : Program C) → IsProgram p → (k a e : ℕ) (ts : List Task) (x : Running C) (ended : End)
    → slice_get (runs_of p (seq p k).memory ts) 0 ≡ Some x
    → IsDue (seq p k).due ts → ((y : Running C) → slice_get (runs_of p (seq p k).memory ts) 0 ≡ Some y → p.done y.run.core ≡ Some ended)
    → let s : Plain = record { commits = k; accepted = a; epoch = e; tasks = ts } in CommitsAnswers p s (plain.commit p s)
commit_tasks_logs p good k a e [] x ended here due done = absurd (none-some x here)
commit_tasks_logs {C} p good k a e (t ∷ ts) x ended here due done =
    let r : Run C = part p t.entry t.turns (seq p k).memory in
    let m : Memory = over (wrote r.log) (seq p k).memory in
    let over_is : p.done r.core ≡ Some ended = done (record { task = t; run = r }) refl in
    let whole : r ≡ task p t.entry (seq p k).memory = sym (part_whole p good t.entry t.turns (seq p k).memory ended over_is) in
    let says : r.log ≡ task_log p k = ap (λ (q : Run C). q.log) whole ∙ sym (ap (λ o. log_of_run (due_run p (seq p k).memory o)) due) in
    let rest : List TaskLog = map log_of (runs_of p m ts) in
    record {
      unit = t.unit;
      others = rest;
      head = ap {B = List TaskLog} (λ l. record { unit = t.unit; log = l } ∷ rest) says;
      keep = stays (p.done r.core) (map entry_of ts);
      logs = ap (λ q. map log_of (runs_of p q.memory (staying_tasks (p.done r.core) ts))) (seq_commit p good k t.entry t.turns ended due over_is) ∙ left (stays (p.done r.core) (map entry_of ts)) m;
    }
  where
    left : (b : Bool) (m : Memory) → map log_of (runs_of p m (cond b ts [])) ≡ cond b (map log_of (runs_of p m ts)) []
    left true m = refl
    left false m = refl

pub logs_follow : (img : Image) → Given img → (config : Config) (s : Standing) → IsReached img config s → (x : Event) → IsEvent x → refusal_of img config s x ≡ None
    → LogsFollow (program img) s.plain (standing_after img s x).plain x (reply_to img s x).what
unfolding standing_after plain_event reply_to plain_reply whole_reply
logs_follow img given config s reached (Assign unit guess) is ok = assign_logs (program img) s.plain unit guess
logs_follow img given config s reached (Submit b) is ok =
    let p : Program State = program img in
    let can = can_submit img config s b ok in
    let place = seat_places img config s b.unit.0 ∙ can.at in
    let tk = taken img given config s b is can in
    let ask : Option (Want State) = asked_want img b in
    let after : Plain = plain.submit p s.plain can.place b.local (is_some ask) in
    let answer = ap (λ (r : Reply). r.what) (asked_reply p s.plain s.lines can.place b.local b.end ask tk) ∙ sym (checked_what (plain.is_misled p after can.place) s.plain.commits (length s.plain.tasks) can.place _)
    ∙ sym (ap (λ o. (plain_submitted p s.plain s.lines o b.local (is_some ask)).what) can.at) in
    let turn = submit_logs p s.plain s.lines b.unit.0 can.place b.local b.end ask can.at tk in
    let here : turn.place ≡ can.place = same_Some turn.place can.place (sym turn.at ∙ can.at) in
    subst (AddsItsAnswer p s.plain (plain_submit img s.plain (task_place s.plain b.unit.0) b) b.unit.0) answer
    (subst (λ o. AddsItsAnswer p s.plain (plain_submit img s.plain o b) b.unit.0 (whole_asked p (machine_of p s.plain) s.lines can.place ask).what) (sym can.at)
    (subst (λ q. AddsItsAnswer p s.plain (plain.check p after q) b.unit.0 (whole_asked p (machine_of p s.plain) s.lines can.place ask).what) here
    (check_logs p s.plain after b.unit.0 _ turn)))
logs_follow img given config s reached (Replace unit a) is ok = refl
logs_follow img given config s reached (Cancel unit) is ok =
    let can = can_cancel img config s unit ok in
    record { place = can.place; at = can.at; logs = ap (λ o. logs_of (program img) (plain_cancel s.plain o)) can.at ∙ cancel_logs (program img) s.plain can.place }
logs_follow img given config s reached (Commit by) is ok =
    let can = can_commit img config s by ok in
    let done : HasEnded (program img) s.plain = head_ended img given config s can in
    commit_tasks_logs (program img) given.is_program s.plain.commits s.plain.accepted s.plain.epoch s.plain.tasks can.run done.end can.here reached.due done.is

commit_tasks_end : {C : Type 0} (p : Program C) → IsProgram p → (k : ℕ) (ts : List Task) (x : Running C) (ended : End)
    → slice_get (runs_of p (seq p k).memory ts) 0 ≡ Some x
    → IsDue (seq p k).due ts → ((y : Running C) → slice_get (runs_of p (seq p k).memory ts) 0 ≡ Some y → p.done y.run.core ≡ Some ended)
    → TellsTheEnd p k (plain_committed p k ts).what
commit_tasks_end p good k [] x ended here due done = absurd (none-some x here)
commit_tasks_end {C} p good k (t ∷ ts) x ended here due done =
    let r : Run C = part p t.entry t.turns (seq p k).memory in
    let over_is : p.done r.core ≡ Some ended = done (record { task = t; run = r }) refl in
    let whole : task p t.entry (seq p k).memory ≡ r = part_whole p good t.entry t.turns (seq p k).memory ended over_is in
    record {
      end = ended;
      ends = ap (λ o. end_of_run p (due_run p (seq p k).memory o)) due ∙ ap (λ (q : Run C). p.done q.core) whole ∙ over_is;
      tells = ap (λ o. what.Committed (record { 0 = k }) (unwrap_or o (end.Next 0))) over_is;
    }

pub commit_tells_the_end : (img : Image) → Given img → (config : Config) (s : Standing) → IsReached img config s → (by : ℕ) → refusal_of img config s (Commit by) ≡ None
    → TellsTheEnd (program img) s.plain.commits (reply_to img s (Commit by)).what
unfolding reply_to plain_reply
commit_tells_the_end img given config s reached by ok =
    let can = can_commit img config s by ok in
    let done : HasEnded (program img) s.plain = head_ended img given config s can in
    commit_tasks_end (program img) given.is_program s.plain.commits s.plain.tasks can.run done.end can.here reached.due done.is
