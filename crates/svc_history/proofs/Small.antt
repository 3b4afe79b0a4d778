-- The numbers of tasks that a reply tells fit 32 bits.
use Rattle.std.proofs.Common.{inl, inr, subst, ℕ, ◌≡◌, ◌+◌, ◌<◌, ◌≤◌, ◌^◌, List, [], ◌∷◌, length, map, Option, Some, None, refl, sym, ap, ◌∙◌, arith, true, false, Bool, slice_get, is_some}
use Rattle.std.specs.Prelude.{IfSome}
use Rattle.svc_base.specs.declared.config.Config.{Config}
use Rattle.svc_base.specs.declared.config.TheConstants.{MAX_EVENTS, MAX_UNITS}
use Rattle.svc_base.specs.declared.served.Served.{Served}
use Rattle.svc_image.specs.Image.{Image}
use Rattle.svc_core_laws.specs.Program.{Memory, Want, Local, Load, Store, Narrow, Emit, Run, wrote, over, part, seq}
use Rattle.svc_core_laws.specs.State.{State}
use Rattle.svc_core_laws.specs.Words.{program}
use Rattle.svc_bus_laws.specs.Versioned.{Row, with_head}
use Rattle.svc_machine_laws.specs.declared.reply.Cut.{Cut}
use Rattle.svc_machine_laws.specs.declared.reply.Cause.{Cause}
use Rattle.svc_machine_laws.specs.declared.reply.Cause.TheVariants as cause
use Rattle.svc_machine_laws.specs.declared.reply.Reply.{Reply}
use Rattle.svc_machine_laws.specs.PlainMachine as plain
use Rattle.svc_machine_laws.specs.PlainMachine.{memory_at, Plain, Task, running, row_of, unit_of}
use Rattle.svc_machine_laws.specs.WholeMachine.{seat_of}
use Rattle.svc_machine_laws.specs.Events.{task_place, asked_want, Event, Assign, Submit, Replace, Cancel, Commit, IsEvent}
use Rattle.svc_machine_laws.specs.Blame.{IsBlamedOn}
use Rattle.svc_machine_laws.specs.Replies.{plain_reply, plain_committed, plain_cancelled, plain_submitted, plain_asked, plain_asked_of, turn_done, serves_at}
use Rattle.svc_machine_laws.specs.Standing.{Standing, refusal_of, reply_to}
use Rattle.svc_machine_laws.specs.Reached.{IsReached}
use Rattle.svc_machine_laws.proofs.Blames.{blamed}
use Rattle.svc_machine_laws.proofs.Given.{Given}
use Rattle.svc_machine_laws.proofs.Followed.{map_count}
use Rattle.svc_machine_laws.proofs.Places.{found, within}
use Rattle.svc_machine_laws.proofs.Room.{tasks_few}
use Rattle.svc_machine_laws.proofs.TaskLogs.{checked_what}
use Rattle.svc_machine_laws.proofs.Answering.{count}
use Rattle.svc_history_laws.specs.Entries.{first_of}
use Rattle.svc_history.specs.Writing.{IsSmall, task_told}

row_count : (rows : List Row) → length (with_head rows) ≡ length rows
row_count [] = refl
row_count (row ∷ rows) = refl

-- the first task that is cut is one of the active ones, or the next one
first_within : (img : Image) (s : Plain) (x : Event) (cut : Cut) (c : Cause) → IsBlamedOn img s x cut c → first_of cut ≤ s.commits + length s.tasks
first_within img s x cut (cause.Violation a) b =
    let p = program img in
    let rows = row_count (map row_of (running p s)) ∙ map_count row_of (running p s) ∙ sym (map_count seat_of (running p s)) ∙ count p (seq p s.commits).memory s.tasks in
    let active = b.is_victim.active in
    omega (arith, active, rows, b.cut_at.first)
first_within img s x cut cause.WrongGuess (inl b) = let n = ap length b.tasks in omega (arith, b.cut_at.first, n)
first_within img s x cut cause.WrongGuess (inr b) =
    let units = map_count unit_of s.tasks in
    let spot = within (map unit_of s.tasks) b.place b.burst.unit.0 (found (map unit_of s.tasks) b.burst.unit.0 b.place b.at) in
    omega (arith, b.cut_at.first, units, spot)
first_within img s x cut cause.Cancelled b =
    let units = map_count unit_of s.tasks in
    let spot = within (map unit_of s.tasks) b.place b.unit (found (map unit_of s.tasks) b.unit b.place b.at) in
    omega (arith, b.cut_at.first, units, spot)

-- a commit tells the number of commits before it
told_commits : (img : Image) (config : Config) (s : Standing) (x : Event) → refusal_of img config s x ≡ None → task_told (reply_to img s x).what ≤ s.plain.commits
unfolding reply_to plain_reply
told_commits img config s (Assign unit guess) ok = omega arith
told_commits img config s (Submit b) ok = asked_tells (task_place s.plain b.unit.0) (is_some (asked_want img b))
  where
    turn_tells : (w : Want State) (look : Memory) (serves : ℕ → Served) → task_told (turn_done (program img) w look serves) ≡ 0
    turn_tells (Local c) look serves = refl
    turn_tells (Load a value go) look serves = refl
    turn_tells (Store a v c) look serves = refl
    turn_tells (Narrow a f c) look serves = refl
    turn_tells (Emit v c) look serves = refl

    task_tells : (place : ℕ) (o : Option Task) → task_told (plain_asked_of (program img) s.plain s.lines place b.local o).what ≤ s.plain.commits
    task_tells place None = omega arith
    task_tells place (Some task) =
        let m : Memory = memory_at (program img) (seq (program img) s.plain.commits).memory s.plain.tasks place in
        let run : Run State = part (program img) task.entry (b.local + task.turns) m in
        let none = turn_tells ((program img).want run.core) (over (wrote run.log) m) (serves_at s.lines place) in
        omega (arith, none)

    turns_tell : (place : ℕ) (ask : Bool) → task_told (plain_asked (program img) s.plain s.lines place b.local ask).what ≤ s.plain.commits
    turns_tell place false = omega arith
    turns_tell place true = task_tells place (slice_get s.plain.tasks place)

    asked_tells : (o : Option ℕ) (ask : Bool) → task_told (plain_submitted (program img) s.plain s.lines o b.local ask).what ≤ s.plain.commits
    asked_tells None ask = omega arith
    asked_tells (Some place) ask =
        let p = program img in
        let same =
        checked_what (plain.is_misled p (plain.submit p s.plain place b.local ask) place) s.plain.commits (length s.plain.tasks) place (plain_asked p s.plain s.lines place b.local ask) in
        subst (λ w. task_told w ≤ s.plain.commits) (sym same) (turns_tell place ask)
told_commits img config s (Replace unit a) ok = omega arith
told_commits img config s (Cancel unit) ok = cancel_tells (task_place s.plain unit)
  where
    cancel_tells : (o : Option ℕ) → task_told (plain_cancelled s.plain o).what ≤ s.plain.commits
    cancel_tells None = omega arith
    cancel_tells (Some place) = omega arith
told_commits img config s (Commit by) ok = commit_tells s.plain.tasks
  where
    commit_tells : (ts : List Task) → task_told (plain_committed (program img) s.plain.commits ts).what ≤ s.plain.commits
    commit_tells [] = omega arith
    commit_tells (t ∷ ts) = omega arith

pub small : (img : Image) → Given img → (config : Config) → config.events ≤ MAX_EVENTS → config.units ≤ MAX_UNITS → (s : Standing) → IsReached img config s → (x : Event) → IsEvent x → refusal_of img config s x ≡ None → (r : Reply) → r ≡ reply_to img s x → IsSmall r
small img given config few units s reached x is ok r e = record {
  task = let told = told_commits img config s x ok in let same = ap (λ (q : Reply). task_told q.what) e in omega (arith, told, same, reached.commits_few, reached.accepted_few, few);
  first = of r.cut refl;
}
  where
    of : (o : Option Cut) → r.cut ≡ o → IfSome o (λ cut. first_of cut < 2 ^ 32)
    of None h = tt
    of (Some cut) h =
        let blame = blamed img given config s reached x is ok cut (ap (λ (q : Reply). q.cut) (sym e) ∙ h) in
        let at = first_within img s.plain x cut cut.cause blame in
        let tasks = tasks_few img config s reached in
        omega (arith, at, tasks, reached.commits_few, reached.accepted_few, few, units)
