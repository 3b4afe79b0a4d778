-- Each entry of a legal history that is charged asks at an instruction.
use Rattle.std.proofs.Common.{◌≡◌, ◌∙◌, ◌∷◌, [], ◌&&◌, ℕ, List, Bool, true, false, cond, Option, None, Some, map, option_map, refl, ap, subst, sym}
use Rattle.std.proofs.lemmas.Bool.{both_ways}
use Rattle.svc_base.specs.declared.config.Config.{Config}
use Rattle.svc_image.specs.Image.{Image}
use Rattle.svc_core_laws.specs.declared.end.End.{End}
use Rattle.svc_core_laws.specs.Program.{Program, part, seq}
use Rattle.svc_core_laws.specs.State.{State}
use Rattle.svc_core_laws.specs.Words.{program}
use Rattle.svc_bus_laws.specs.LineTable.{LineTable}
use Rattle.svc_machine_laws.specs.declared.reply.Reply.{Reply}
use Rattle.svc_machine_laws.specs.Events.{Event, task_place}
use Rattle.svc_machine_laws.specs.Events as event
use Rattle.svc_machine_laws.specs.PlainMachine.{Plain, Task}
use Rattle.svc_machine_laws.specs.PlainMachine as plain
use Rattle.svc_machine_laws.specs.Refusals.{seat_at}
use Rattle.svc_machine_laws.specs.Replies.{reply_after_check, reply_to_commit, plain_cancelled, plain_committed, plain_reply, plain_submitted, ran}
use Rattle.svc_machine_laws.specs.Standing.{Standing, opened_at, reply_to}
use Rattle.svc_machine_laws.specs.WholeMachine.{Machine, machine_of}
use Rattle.svc_history_laws.specs.declared.entry.CutKind.TheVariants as cause
use Rattle.svc_history_laws.specs.declared.entry.Entry.{Entry}
use Rattle.svc_history_laws.specs.declared.entry.Kind.{Kind}
use Rattle.svc_history_laws.specs.declared.entry.Kind.TheVariants.{Assign, Submit, Replace, Cancel, Commit}
use Rattle.svc_history_laws.specs.Entries.{cause_of, entry_of, entry_asking, plain_entry, reply_told, telling}
use Rattle.svc_history_laws.specs.Legal.{IsAccepted, IsSubmitted, Legal, LegalEntry, LegalHistory, LegalKind, after_entry, the_arg, the_ask, the_local}
use Rattle.svc_history_laws.proofs.Replays.{seat_of_task}
use Rattle.svc_report.specs.Summary.{is_cause, is_kind}
use Rattle.svc_task_runs.specs.Runs.{is_load, is_store}
use Rattle.svc_instruction_profile.specs.Addresses.{address_at, addresses, addresses_from, asks, place_after}
use Rattle.svc_instruction_profile.specs.Charges.{is_output}
use Rattle.svc_instruction_profile.specs.Sums.{AsksAt, EachAsksAt}

never : {X : Type 0} → false ≡ true → X
never no_way = absurd (both_ways false refl no_way)

-- ---- replies that nothing is charged for

-- neither a load nor a store, an output or a violation
record IsQuiet (r : Reply) : Type 0 where
  loads : is_load (reply_told r.what) ≡ false
  stores : is_store (reply_told r.what) ≡ false
  outputs : is_output (reply_told r.what) ≡ false
  violation : is_cause cause.Violation (option_map cause_of r.cut) ≡ false

not_both : {X : Type 0} (b : Bool) → b ≡ false → b ≡ true → X
not_both b not_so so = absurd (both_ways b not_so so)

quiet_asks : (a : Option ℕ) (r : Reply) (e : Entry) → IsQuiet r → AsksAt a (telling r e)
quiet_asks a r e q = record {
  loads = not_both (is_load (reply_told r.what)) q.loads;
  stores = not_both (is_store (reply_told r.what)) q.stores;
  outputs = not_both (is_output (reply_told r.what)) q.outputs;
  violation = not_both (is_cause cause.Violation (option_map cause_of r.cut)) q.violation;
}

ran_quiet : IsQuiet ran
ran_quiet = record { loads = refl; stores = refl; outputs = refl; violation = refl }

checked_quiet : (wrong : Bool) (k count place : ℕ) → IsQuiet (reply_after_check wrong k count place ran)
checked_quiet false k count place = ran_quiet
checked_quiet true k count place = record { loads = refl; stores = refl; outputs = refl; violation = refl }

local_quiet : {C : Type 0} (p : Program C) (s : Plain) (t : LineTable) (place : Option ℕ) (local : ℕ) → IsQuiet (plain_submitted p s t place local false)
local_quiet p s t None local = ran_quiet
local_quiet p s t (Some place) local = checked_quiet _ _ _ place

cancelled_quiet : (s : Plain) (place : Option ℕ) → IsQuiet (plain_cancelled s place)
cancelled_quiet s None = ran_quiet
cancelled_quiet s (Some place) = record { loads = refl; stores = refl; outputs = refl; violation = refl }

end_quiet : {A : Type 0} (k : ℕ) (ended : Option End) (keep : Bool) (rest : List A) → IsQuiet (reply_to_commit k ended keep rest)
end_quiet k ended true rest = record { loads = refl; stores = refl; outputs = refl; violation = refl }
end_quiet k ended false [] = record { loads = refl; stores = refl; outputs = refl; violation = refl }
end_quiet k ended false (x ∷ rest) = record { loads = refl; stores = refl; outputs = refl; violation = refl }

committed_quiet : {C : Type 0} (p : Program C) (k : ℕ) (tasks : List Task) → IsQuiet (plain_committed p k tasks)
committed_quiet p k [] = ran_quiet
committed_quiet p k (t ∷ ts) =
    let ended = p.done (part p t.entry t.turns (seq p k).memory).core in
    end_quiet k ended (plain.stays ended (map plain.entry_of ts)) ts

assign_quiet : (img : Image) (s : Standing) (unit guess : ℕ) → IsQuiet (reply_to img s (event.Assign unit guess))
unfolding reply_to plain_reply
assign_quiet img s unit guess = record { loads = refl; stores = refl; outputs = refl; violation = refl }

replace_quiet : (img : Image) (s : Standing) (unit address : ℕ) → IsQuiet (reply_to img s (event.Replace unit address))
unfolding reply_to plain_reply
replace_quiet img s unit address = record { loads = refl; stores = refl; outputs = refl; violation = refl }

cancel_quiet : (img : Image) (s : Standing) (unit : ℕ) → IsQuiet (reply_to img s (event.Cancel unit))
unfolding reply_to plain_reply
cancel_quiet img s unit = cancelled_quiet s.plain (task_place s.plain unit)

commit_quiet : (img : Image) (s : Standing) (by : ℕ) → IsQuiet (reply_to img s (event.Commit by))
unfolding reply_to plain_reply
commit_quiet img s by = committed_quiet (program img) s.plain.commits s.plain.tasks

-- ---- legal entries

accepted_asks : (img : Image) (config : Config) (s : Standing) (x : Event) (e : Entry) (a : Option ℕ) → IsAccepted img config s x e → IsQuiet (reply_to img s x) → AsksAt a e
unfolding entry_of
accepted_asks img config s x e a accepted quiet = subst (AsksAt a) (sym accepted.1) (quiet_asks a (reply_to img s x) (entry_asking x) quiet)

some_asks : (a : Option ℕ) (p : ℕ) (e : Entry) → a ≡ Some p → AsksAt a e
some_asks a p e is = subst (λ (a : Option ℕ). AsksAt a e) (sym is) (record { loads = λ h. refl; stores = λ h. refl; outputs = λ h. refl; violation = λ h. refl })

submit_asks : (img : Image) (config : Config) (s : Standing) (e : Entry) (b : Bool) → the_ask e ≡ b → e.kind ≡ Submit → IsSubmitted img config s e → AsksAt (address_at img s.plain e) e
submit_asks img config s e false local kind legal =
    let a = address_at img s.plain e in
    let r = plain_submitted (program img) s.plain s.lines (task_place s.plain e.unit.0) (the_local e) (the_ask e) in
    let quiet : IsQuiet r =
    subst (λ (b : Bool). IsQuiet (plain_submitted (program img) s.plain s.lines (task_place s.plain e.unit.0) (the_local e) b)) (sym local)
    (local_quiet (program img) s.plain s.lines (task_place s.plain e.unit.0) (the_local e)) in
    subst (AsksAt a) (sym legal.entry) (quiet_asks a r (plain_entry Submit e.unit None (Some (the_local e)) (Some (the_ask e))) quiet)
submit_asks img config s e true asked kind legal =
    let whole : Machine State = machine_of (program img) s.plain in
    let seat = seat_of_task img config s e.unit.0 legal.place legal.task legal.at legal.task_is in
    let asking : asks e ≡ true = ap (λ (k : Kind). is_kind Submit k && the_ask e) kind ∙ asked in
    some_asks (address_at img s.plain e) _ e
    (ap (λ (c : Bool). cond c (option_map (place_after img (the_local e)) (seat_at whole e.unit.0)) None) asking
    ∙ ap (option_map (place_after img (the_local e))) seat)

kind_asks : (k : Kind) (img : Image) (config : Config) (s : Standing) (e : Entry) → e.kind ≡ k → LegalKind k img config s e → AsksAt (address_at img s.plain e) e
kind_asks Assign img config s e is legal = accepted_asks img config s (event.Assign e.unit.0 (the_arg e)) e (address_at img s.plain e) legal (assign_quiet img s e.unit.0 (the_arg e))
kind_asks Submit img config s e is legal = submit_asks img config s e (the_ask e) refl is legal
kind_asks Replace img config s e is legal = accepted_asks img config s (event.Replace e.unit.0 (the_arg e)) e (address_at img s.plain e) legal (replace_quiet img s e.unit.0 (the_arg e))
kind_asks Cancel img config s e is legal = accepted_asks img config s (event.Cancel e.unit.0) e (address_at img s.plain e) legal (cancel_quiet img s e.unit.0)
kind_asks Commit img config s e is legal = accepted_asks img config s (event.Commit e.unit.0) e (address_at img s.plain e) legal (commit_quiet img s e.unit.0)

pub entry_asks : (img : Image) (config : Config) (s : Standing) (e : Entry) → LegalEntry img config s e → AsksAt (address_at img s.plain e) e
unfolding LegalEntry
entry_asks img config s e legal = kind_asks e.kind img config s e refl legal

asks_from : (img : Image) (config : Config) (s : Standing) (es : List Entry) → Legal img config s es → EachAsksAt (addresses_from img s es) es
unfolding Legal addresses_from
asks_from img config s [] legal = tt
asks_from img config s (e ∷ es) legal = (entry_asks img config s e legal.0, asks_from img config (after_entry img s e) es legal.1)

pub history_asks : (img : Image) (config : Config) (es : List Entry) → LegalHistory img config es → EachAsksAt (addresses img config es) es
history_asks img config es legal = asks_from img config (opened_at img config 0) es legal
