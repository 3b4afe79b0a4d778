-- What the machine answers to an accepted event.
use Rattle.std.specs.Prelude.{ℕ, suc, ◌+◌, ◌-◌, Bool, true, false, cond, List, [], ◌∷◌, length, map, Option, Some, None}
use Rattle.std.specs.Prelude.{unwrap_or, option_map, is_some, slice_get}
use Rattle.svc_base.specs.declared.served.Served.{Served}
use Rattle.svc_base.specs.declared.served.Served.TheVariants as served
use Rattle.svc_image.specs.Image.{Image}
use Rattle.svc_core_laws.specs.declared.end.End.{End}
use Rattle.svc_core_laws.specs.declared.end.End.TheVariants as end
use Rattle.svc_core_laws.specs.State.{State}
use Rattle.svc_core_laws.specs.Program.{Memory, Want, Local, Load, Store, Narrow, Emit, Program, wrote, over, part, seq}
use Rattle.svc_core_laws.specs.Words.{program}
use Rattle.svc_bus_laws.specs.Versioned.{Row}
use Rattle.svc_bus_laws.specs.ByRows.{victim_after}
use Rattle.svc_bus_laws.specs.LineTable.{LineTable}
use Rattle.svc_bus_laws.specs.Supplier.{Supplier, supplier}
use Rattle.svc_bus_laws.specs.Supplier as supply
use Rattle.svc_machine_laws.specs.declared.reply.What.{What}
use Rattle.svc_machine_laws.specs.declared.reply.What.TheVariants as what
use Rattle.svc_machine_laws.specs.declared.reply.Cause.{Cause}
use Rattle.svc_machine_laws.specs.declared.reply.Cause.TheVariants as cause
use Rattle.svc_machine_laws.specs.declared.reply.Cut.{Cut}
use Rattle.svc_machine_laws.specs.declared.reply.Reply.{Reply}
use Rattle.svc_machine_laws.specs.PlainMachine.{Task, Plain, running, row_of, memory_at, entry_of, entry_for, stays}
use Rattle.svc_machine_laws.specs.PlainMachine as plain
use Rattle.svc_machine_laws.specs.WholeMachine.{Machine, Seat, seat_entry, memory_seen}
use Rattle.svc_machine_laws.specs.WholeMachine as whole
use Rattle.svc_machine_laws.specs.Events.{Event, Assign, Submit, Replace, Cancel, Commit, seat_place, task_place}
use Rattle.svc_machine_laws.specs.Events.{asked_want}

-- who serves a read
abbrev pub served_by : Supplier → Served
served_by supply.Hit = served.Hit
served_by supply.Reuse = served.Reuse
served_by (supply.Version unit) = served.Version (record { 0 = unit })
served_by supply.Spill = served.Spill
served_by (supply.Committed unit) = served.Committed (record { 0 = unit })
served_by supply.Memory = served.Memory

-- the number of a trap
abbrev pub trap_number : Option End → ℕ
trap_number None = 0
trap_number (Some (end.Next e)) = 0
trap_number (Some (end.Exit code)) = 0
trap_number (Some (end.Trap number)) = number

-- what an asked turn that wants this did, given what each read sees and who serves it; one that needs no memory has
-- trapped
abbrev pub turn_done : {C : Type 0} → Program C → Want C → Memory → (ℕ → Served) → What
turn_done p (Local c) look serves = what.Trapped (trap_number (p.done c))
turn_done p (Load a value go) look serves = what.Loaded (record { 0 = a }) (value (look a)) (serves a)
turn_done p (Store a w c) look serves = what.Stored (record { 0 = a }) w None
turn_done p (Narrow a f c) look serves = what.Stored (record { 0 = a }) (f (look a)) (Some (serves a))
turn_done p (Emit w c) look serves = what.Emitted w

-- of this many tasks, the first of them numbered k, those from a place on are cut
abbrev pub cut_from : Cause → (k count place : ℕ) → Cut
cut_from why k count place = record { cause = why; first = record { 0 = k + place }; tasks = count - place }

-- what such a turn of the task at a place cuts: its victim and all after it
abbrev pub turn_cut : {C : Type 0} → Want C → List Row → (k count place : ℕ) → Option Cut
turn_cut (Local c) rows k count place = None
turn_cut (Load a value go) rows k count place = None
turn_cut (Store a w c) rows k count place =
    option_map (λ n. cut_from (cause.Violation (record { 0 = a })) k count (suc place + n)) (victim_after rows place a)
turn_cut (Narrow a f c) rows k count place =
    option_map (λ n. cut_from (cause.Violation (record { 0 = a })) k count (suc place + n)) (victim_after rows place a)
turn_cut (Emit w c) rows k count place = None

-- what a commit cuts if the next task doesn't stay: all tasks after the head, if there are any
abbrev pub wrong_guess : {A : Type 0} → ℕ → List A → Option Cut
wrong_guess k [] = None
wrong_guess k (x ∷ xs) = Some (cut_from cause.WrongGuess k (suc (length (x ∷ xs))) 1)

-- nothing was asked
abbrev pub ran : Reply
ran = record { what = what.Ran; cut = None }

abbrev pub reply_to_cancel : (k count place : ℕ) → Reply
reply_to_cancel k count place = record { what = what.Cancelled; cut = Some (cut_from cause.Cancelled k count place) }

abbrev pub reply_to_commit : {A : Type 0} → ℕ → Option End → Bool → List A → Reply
reply_to_commit k ended keep rest = record {
  what = what.Committed (record { 0 = k }) (unwrap_or ended (end.Next 0));
  cut = cond keep None (wrong_guess k rest);
}

-- who serves a read of the task at a place
abbrev pub serves_at : LineTable → (place a : ℕ) → Served
serves_at t place a = served_by (supplier t place a)

-- the whole machine's answers, over its line table
abbrev pub whole_asked : {C : Type 0} → Program C → Machine C → LineTable → ℕ → Option (Want C) → Reply
whole_asked p m t place None = ran
whole_asked p m t place (Some w) =
    record {
      what = turn_done p w (memory_seen m.versioned place) (serves_at t place);
      cut = turn_cut w m.versioned.rows m.versioned.commits (length m.seats) place;
    }

-- the one cut of a submit: a wrong guess if the check finds one among the tasks that the turn has left, otherwise the
-- turn's own
abbrev pub reply_after_check : Bool → (k count place : ℕ) → Reply → Reply
reply_after_check false k count place r = r
reply_after_check true k count place r = record r { cut = Some (cut_from cause.WrongGuess k count (suc place)) }

abbrev pub whole_submitted : {C : Type 0} → Program C → Machine C → LineTable → Option ℕ → C → Option (Want C) → Reply
whole_submitted p m t None end w = ran
whole_submitted p m t (Some place) end w =
    reply_after_check (whole.is_misled p (whole.submit m place end w).seats place)
    m.versioned.commits (length m.seats) place (whole_asked p m t place w)

abbrev pub whole_cancelled : {C : Type 0} → Machine C → Option ℕ → Reply
whole_cancelled m None = ran
whole_cancelled m (Some place) = reply_to_cancel m.versioned.commits (length m.seats) place

abbrev pub whole_committed : {C : Type 0} → Program C → ℕ → List (Seat C) → Reply
whole_committed p k [] = ran
whole_committed p k (s ∷ seats) = reply_to_commit k (p.done s.core) (stays (p.done s.core) (map seat_entry seats)) seats

-- the whole machine's reply to an accepted event
unfoldable pub whole_reply : Image → Machine State → LineTable → Event → Reply
whole_reply img m t (Assign unit guess) =
    record {
      what =
          what.Assigned (record { 0 = m.versioned.commits + length m.seats })
          (entry_for m.due (map seat_entry m.seats) guess) m.epoch;
      cut = None;
    }
whole_reply img m t (Submit b) = whole_submitted (program img) m t (seat_place m b.unit.0) b.end (asked_want img b)
whole_reply img m t (Replace unit address) = record { what = what.Replaced (record { 0 = address }); cut = None }
whole_reply img m t (Cancel unit) = whole_cancelled m (seat_place m unit)
whole_reply img m t (Commit by) = whole_committed (program img) m.versioned.commits m.seats

-- the plain machine's answers: an asked turn is the next one of the task's run, run again on the memory of its place
abbrev pub plain_asked_of : {C : Type 0} → Program C → Plain → LineTable → (place local : ℕ) → Option Task → Reply
plain_asked_of p s t place local None = ran
plain_asked_of p s t place local (Some task) =
    let m = memory_at p (seq p s.commits).memory s.tasks place in
    let run = part p task.entry (local + task.turns) m in
    record {
      what = turn_done p (p.want run.core) (over (wrote run.log) m) (serves_at t place);
      cut = turn_cut (p.want run.core) (map row_of (running p s)) s.commits (length s.tasks) place;
    }

abbrev pub plain_asked : {C : Type 0} → Program C → Plain → LineTable → (place local : ℕ) → Bool → Reply
plain_asked p s t place local false = ran
plain_asked p s t place local true = plain_asked_of p s t place local (slice_get s.tasks place)

abbrev pub plain_submitted : {C : Type 0} → Program C → Plain → LineTable → Option ℕ → ℕ → Bool → Reply
plain_submitted p s t None local ask = ran
plain_submitted p s t (Some place) local ask =
    reply_after_check (plain.is_misled p (plain.submit p s place local ask) place) s.commits (length s.tasks) place
    (plain_asked p s t place local ask)

abbrev pub plain_cancelled : Plain → Option ℕ → Reply
plain_cancelled s None = ran
plain_cancelled s (Some place) = reply_to_cancel s.commits (length s.tasks) place

abbrev pub plain_committed : {C : Type 0} → Program C → ℕ → List Task → Reply
plain_committed p k [] = ran
plain_committed p k (t ∷ ts) =
    let ended = p.done (part p t.entry t.turns (seq p k).memory).core in
    reply_to_commit k ended (stays ended (map entry_of ts)) ts

-- the plain machine's reply to an accepted event
unfoldable pub plain_reply : Image → Plain → LineTable → Event → Reply
plain_reply img s t (Assign unit guess) =
    record {
      what =
          what.Assigned (record { 0 = s.commits + length s.tasks })
          (entry_for (seq (program img) s.commits).due (map entry_of s.tasks) guess) s.epoch;
      cut = None;
    }
plain_reply img s t (Submit b) =
    plain_submitted (program img) s t (task_place s b.unit.0) b.local (is_some (asked_want img b))
plain_reply img s t (Replace unit address) = record { what = what.Replaced (record { 0 = address }); cut = None }
plain_reply img s t (Cancel unit) = plain_cancelled s (task_place s unit)
plain_reply img s t (Commit by) = plain_committed (program img) s.commits s.tasks
