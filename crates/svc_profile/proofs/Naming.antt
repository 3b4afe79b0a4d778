-- Each entry of a legal history names the word for which something is counted.
use Rattle.std.proofs.Common.{◌≡◌, ◌∷◌, [], ℕ, List, Bool, true, false, Option, None, Some, map, option_map, refl, subst, sym}
use Rattle.std.specs.Prelude.{is_some, slice_get}
use Rattle.std.specs.List.{AllByRecursion}
use Rattle.std.specs.Option.{IsSome}
use Rattle.std.proofs.lemmas.Bool.{both_ways}
use Rattle.svc_base.specs.declared.config.Config.{Config}
use Rattle.svc_base.specs.declared.ids.UnitId.{UnitId}
use Rattle.svc_base.specs.declared.served.Served.{Served}
use Rattle.svc_image.specs.Image.{Image}
use Rattle.svc_core_laws.specs.declared.end.End.{End}
use Rattle.svc_core_laws.specs.Program.{Emit, Load, Local, Memory, Narrow, Program, Store, Want, part, seq}
use Rattle.svc_core_laws.specs.Words.{program}
use Rattle.svc_bus_laws.specs.LineTable.{LineTable}
use Rattle.svc_bus_laws.specs.Versioned.{Row}
use Rattle.svc_machine_laws.specs.declared.reply.Reply.{Reply}
use Rattle.svc_machine_laws.specs.declared.reply.What.{What}
use Rattle.svc_machine_laws.specs.declared.reply.What.TheVariants as what
use Rattle.svc_machine_laws.specs.Events.{Event, asked_want, task_place}
use Rattle.svc_machine_laws.specs.Events as event
use Rattle.svc_machine_laws.specs.PlainMachine.{Plain, Task}
use Rattle.svc_machine_laws.specs.PlainMachine as plain
use Rattle.svc_machine_laws.specs.Replies.{reply_after_check, reply_to_commit, plain_asked, plain_asked_of, plain_cancelled, plain_committed, plain_reply, plain_submitted, turn_cut, turn_done}
use Rattle.svc_machine_laws.specs.Standing.{Standing, opened_at, reply_to}
use Rattle.svc_history_laws.specs.declared.entry.CutKind.TheVariants as cause
use Rattle.svc_history_laws.specs.declared.entry.Entry.{Entry}
use Rattle.svc_history_laws.specs.declared.entry.Kind.{Kind}
use Rattle.svc_history_laws.specs.declared.entry.Kind.TheVariants.{Assign, Submit, Replace, Cancel, Commit}
use Rattle.svc_history_laws.specs.declared.entry.ServedKind.TheVariants as served
use Rattle.svc_history_laws.specs.Entries.{address_told, cause_of, entry_of, kind_served, entry_asking, plain_entry, reply_told, served_told, telling}
use Rattle.svc_history_laws.specs.Legal.{IsAccepted, Legal, LegalEntry, LegalHistory, LegalKind, after_entry, the_arg, the_ask, the_local}
use Rattle.svc_history_laws.specs.Submissions.{submission}
use Rattle.svc_report.specs.Summary.{is_cause, is_supplier}
use Rattle.svc_task_runs.specs.Runs.{is_load, is_store}
use Rattle.svc_profile.specs.Named.{NamesItsWord}

never : {X : Type 0} → false ≡ true → X
never no_way = absurd (both_ways false refl no_way)

-- ---- what a reply tells

load_named : (w : What) → is_load (reply_told w) ≡ true → IsSome (address_told w)
load_named (what.Assigned task entry epoch) is = never is
load_named what.Ran is = never is
load_named (what.Loaded addr value by) is = refl
load_named (what.Stored addr word by) is = refl
load_named (what.Emitted word) is = never is
load_named (what.Trapped number) is = never is
load_named (what.Replaced addr) is = refl
load_named what.Cancelled is = never is
load_named (what.Committed task end) is = never is

store_named : (w : What) → is_store (reply_told w) ≡ true → IsSome (address_told w)
store_named (what.Assigned task entry epoch) is = never is
store_named what.Ran is = never is
store_named (what.Loaded addr value by) is = refl
store_named (what.Stored addr word by) is = refl
store_named (what.Emitted word) is = never is
store_named (what.Trapped number) is = never is
store_named (what.Replaced addr) is = refl
store_named what.Cancelled is = never is
store_named (what.Committed task end) is = never is

version_named : (w : What) → is_supplier served.Version (option_map kind_served (served_told w)) ≡ true → IsSome (address_told w)
version_named (what.Assigned task entry epoch) is = never is
version_named what.Ran is = never is
version_named (what.Loaded addr value by) is = refl
version_named (what.Stored addr word by) is = refl
version_named (what.Emitted word) is = never is
version_named (what.Trapped number) is = never is
version_named (what.Replaced addr) is = refl
version_named what.Cancelled is = never is
version_named (what.Committed task end) is = never is

-- a reply with a violation has a word
abbrev BlamesItsWord : Reply → Type 0
BlamesItsWord r = is_cause cause.Violation (option_map cause_of r.cut) ≡ true → IsSome (address_told r.what)

telling_names : (r : Reply) (e : Entry) → BlamesItsWord r → NamesItsWord (telling r e)
telling_names r e blames = record { loads = load_named r.what; stores = store_named r.what; version = version_named r.what; violation = blames }

-- ---- what the machine replies

turn_blames : {C : Type 0} (p : Program C) (w : Want C) (look : Memory) (serves : ℕ → Served) (rows : List Row) (k count place : ℕ)
    → BlamesItsWord (record { what = turn_done p w look serves; cut = turn_cut w rows k count place })
turn_blames p (Local c) look serves rows k count place is = never is
turn_blames p (Load a value go) look serves rows k count place is = refl
turn_blames p (Store a w c) look serves rows k count place is = refl
turn_blames p (Narrow a f c) look serves rows k count place is = refl
turn_blames p (Emit w c) look serves rows k count place is = never is

asked_of_blames : {C : Type 0} (p : Program C) (s : Plain) (t : LineTable) (place local : ℕ) (task : Option Task) → BlamesItsWord (plain_asked_of p s t place local task)
asked_of_blames p s t place local None is = never is
asked_of_blames p s t place local (Some task) is = turn_blames p _ _ _ _ _ _ _ is

asked_blames : {C : Type 0} (p : Program C) (s : Plain) (t : LineTable) (place local : ℕ) (ask : Bool) → BlamesItsWord (plain_asked p s t place local ask)
asked_blames p s t place local false is = never is
asked_blames p s t place local true is = asked_of_blames p s t place local (slice_get s.tasks place) is

checked_blames : (wrong : Bool) (k count place : ℕ) (r : Reply) → BlamesItsWord r → BlamesItsWord (reply_after_check wrong k count place r)
checked_blames false k count place r blames = blames
checked_blames true k count place r blames = λ is. never is

submitted_blames : {C : Type 0} (p : Program C) (s : Plain) (t : LineTable) (place : Option ℕ) (local : ℕ) (ask : Bool) → BlamesItsWord (plain_submitted p s t place local ask)
submitted_blames p s t None local ask is = never is
submitted_blames p s t (Some place) local ask is = checked_blames _ _ _ place (plain_asked p s t place local ask) (asked_blames p s t place local ask) is

cancelled_blames : (s : Plain) (place : Option ℕ) → BlamesItsWord (plain_cancelled s place)
cancelled_blames s None is = never is
cancelled_blames s (Some place) is = never is

end_blames : {A : Type 0} (k : ℕ) (ended : Option End) (keep : Bool) (rest : List A) → BlamesItsWord (reply_to_commit k ended keep rest)
end_blames k ended true rest is = never is
end_blames k ended false [] is = never is
end_blames k ended false (x ∷ rest) is = never is

committed_blames : {C : Type 0} (p : Program C) (k : ℕ) (tasks : List Task) → BlamesItsWord (plain_committed p k tasks)
committed_blames p k [] is = never is
committed_blames p k (t ∷ ts) is =
    let ended = p.done (part p t.entry t.turns (seq p k).memory).core in
    end_blames k ended (plain.stays ended (map plain.entry_of ts)) ts is

-- ---- legal entries

accepted_names : (img : Image) (config : Config) (s : Standing) (x : Event) (e : Entry) → IsAccepted img config s x e → BlamesItsWord (reply_to img s x) → NamesItsWord e
unfolding entry_of
accepted_names img config s x e accepted blames = subst NamesItsWord (sym accepted.1) (telling_names (reply_to img s x) (entry_asking x) blames)

reply_blames : (img : Image) (s : Standing) (x : Event) → BlamesItsWord (reply_to img s x)
unfolding reply_to plain_reply
reply_blames img s (event.Assign unit guess) is = never is
reply_blames img s (event.Submit b) is = submitted_blames (program img) s.plain s.lines (task_place s.plain b.unit.0) b.local (is_some (asked_want img b)) is
reply_blames img s (event.Replace unit address) is = never is
reply_blames img s (event.Cancel unit) is = cancelled_blames s.plain (task_place s.plain unit) is
reply_blames img s (event.Commit by) is = committed_blames (program img) s.plain.commits s.plain.tasks is

submission_names : (img : Image) (s : Standing) (unit : UnitId) (local : ℕ) (ask : Bool) → NamesItsWord (submission img s unit local ask)
submission_names img s unit local ask =
    let place = task_place s.plain unit.0 in
    telling_names (plain_submitted (program img) s.plain s.lines place local ask) (plain_entry Submit unit None (Some local) (Some ask))
    (submitted_blames (program img) s.plain s.lines place local ask)

kind_names : (k : Kind) (img : Image) (config : Config) (s : Standing) (e : Entry) → LegalKind k img config s e → NamesItsWord e
kind_names Assign img config s e legal = let x = event.Assign e.unit.0 (the_arg e) in accepted_names img config s x e legal (reply_blames img s x)
kind_names Submit img config s e legal = subst NamesItsWord (sym legal.entry) (submission_names img s e.unit (the_local e) (the_ask e))
kind_names Replace img config s e legal = let x = event.Replace e.unit.0 (the_arg e) in accepted_names img config s x e legal (reply_blames img s x)
kind_names Cancel img config s e legal = let x = event.Cancel e.unit.0 in accepted_names img config s x e legal (reply_blames img s x)
kind_names Commit img config s e legal = let x = event.Commit e.unit.0 in accepted_names img config s x e legal (reply_blames img s x)

entry_names : (img : Image) (config : Config) (s : Standing) (e : Entry) → LegalEntry img config s e → NamesItsWord e
unfolding LegalEntry
entry_names img config s e legal = kind_names e.kind img config s e legal

names_from : (img : Image) (config : Config) (s : Standing) (es : List Entry) → Legal img config s es → AllByRecursion NamesItsWord es
unfolding Legal
names_from img config s [] legal = tt
names_from img config s (e ∷ es) legal = (entry_names img config s e legal.0, names_from img config (after_entry img s e) es legal.1)

pub history_names : (img : Image) (config : Config) (es : List Entry) → LegalHistory img config es → AllByRecursion NamesItsWord es
history_names img config es legal = names_from img config (opened_at img config 0) es legal
