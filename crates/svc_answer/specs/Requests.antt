-- What it means to do what a command line asks for.
use Rattle.std.specs.Prelude.{◌≡◌, ◌⊎◌, ⊤, ℕ, false, All, List, [], Option, None, Some, Result, IfSome, IfOk, IfErr}
use Rattle.std.specs.Prelude.{◌++◌, codes, string_bytes}
use denote.Ref.{Bor}
use Rattle.std.specs.Io.KnownBytes.{Appends}
use Rattle.std.specs.List.{AllByRecursion}
use Rattle.svc_base.specs.declared.config.Config.{Config}
use Rattle.svc_image.specs.Image.{Image, IsImage}
use Rattle.svc_image.specs.Format.{file_of}
use Rattle.svc_image.specs.declared.samples.TheConstants.{P1}
use Rattle.svc_plain.specs.Tasks.{tasks_run}
use Rattle.svc_history_laws.specs.declared.entry.Entry.{Entry}
use Rattle.svc_history.specs.Recorded.{Recorded}
use Rattle.svc_script.specs.declared.script.Step.{Step}
use Rattle.svc_report.specs.Records.{IsText}
use Rattle.svc_script.specs.Events.{IsEvent}
use Rattle.svc_script.specs.Leading.{LeadsBack, script_of}
use Rattle.svc_script.specs.Script.{HasStepRow, script_records, script_text}
use Rattle.svc_report.specs.Trace.{HasRow, text_of, trace_records}
use Rattle.svc_request.specs.Held.{Held, KeepsAllBut, KeepsAllButBoth}
use Rattle.svc_request.specs.Names.{also_written_by, source_of, written_by}
use Rattle.svc_request.specs.declared.request.Order.{Order}
use Rattle.svc_request.specs.declared.request.Schedule.{Schedule}
use Rattle.svc_request.specs.declared.request.Source.{Source}
use Rattle.svc_request.specs.declared.request.Source.TheVariants as source
use Rattle.svc_request.specs.declared.request.Traced.{Traced}
use Rattle.svc_request.specs.declared.request.Request.{Request}
use Rattle.svc_request.specs.declared.request.Request.TheVariants as request
use Rattle.svc_request.specs.declared.request.TheConstants.{VERSION}
use Rattle.svc_request.specs.declared.faults.Fault.{Fault}
use Rattle.svc_request.specs.declared.faults.Fault.TheVariants as fault
use Rattle.svc_answer.specs.Assembly.{Assembles, Lists, MakesImage, SavesNames, text_held}
use Rattle.svc_answer.specs.Costs.{TellsCost}
use Rattle.svc_answer.specs.Drawings.{IsDrawn, SavesDrawing}
use Rattle.svc_answer.specs.Explored.{FindsSight, TellsSchedules}
use Rattle.svc_answer.specs.Exports.{Exports}
use Rattle.svc_request.specs.Faults.{IsEarly, IsOutputFault, IsReportFault, IsRunFault}
use Rattle.svc_answer.specs.Named.{IsNamedIn}
use Rattle.svc_answer.specs.Observed.{TellsSightings}
use Rattle.svc_answer.specs.Needs.{TellsNeeds}
use Rattle.svc_answer.specs.Runs.{AreSameIn, FindsSound, IsContinuedBy, IsRunOf, IsScheduledBy, Reports, ReportsRun}
use Rattle.svc_answer.specs.Scripts.{PlaysScript}
use Rattle.svc_answer.specs.Shown.{TellsMachine}

-- the bytes are the built-in image's, or those of the named file, if what it holds is known
abbrev pub IsFileOf : Held → Source → List ℕ → Type 0
IsFileOf held source.BuiltIn file = file ≡ P1
IsFileOf held (source.File name) file = IfSome (held name.now) (λ bytes. file ≡ bytes)

-- the image that the loader makes of a source
pub record IsOfSource (held : Held) (from : Source) (img : Image) : Type 0 where
  pub sound : IsImage img
  pub file : IsFileOf held from (file_of img)

-- the loader makes an image of the source
abbrev pub IsThere : Held → Source → Type 0
IsThere held from = (img : Image) × IsOfSource held from img

-- the steps are those of the named script, if what it holds is known
pub record IsScriptIn (held : Held) (name : List ℕ) (steps : List Step) : Type 0 where
  pub rows : AllByRecursion HasStepRow steps
  pub text : IfSome (held name) (λ text. IsText text (script_records steps))

-- the steps are events alone, those of the script that is named if one is
abbrev pub AreEventsIn : Held → Option (Bor (List ℕ)) → List Step → Type 0
AreEventsIn held None steps = steps ≡ []
AreEventsIn held (Some name) steps = IsScriptIn held name.now steps × All IsEvent steps

abbrev pub HasEvents : Held → Option (Bor (List ℕ)) → Type 0
HasEvents held named = (steps : List Step) × AreEventsIn held named steps

-- a run goes by this order and these bursts, after the script that is named if one is
abbrev pub GoesAfter : Held → Option (Bor (List ℕ)) → Order → (burst : ℕ) → Image → Config → Recorded → Type 0
GoesAfter held None by burst img config r = IsScheduledBy by burst img config r
GoesAfter held (Some name) by burst img config r =
    (steps : List Step) × IsScriptIn held name.now steps × All IsEvent steps × IsContinuedBy steps by burst img config r

-- a run goes by the schedule, if there is one
abbrev pub GoesBy : Held → Option Schedule → Image → Config → Recorded → Type 0
GoesBy held None img config r = ⊤
GoesBy held (Some schedule) img config r = GoesAfter held schedule.after schedule.order schedule.burst img config r

-- the entries are those of the named trace, if what it holds is known
pub record IsTraceIn (held : Held) (name : List ℕ) (es : List Entry) : Type 0 where
  pub rows : AllByRecursion HasRow es
  pub text : IfSome (held name) (λ text. IsText text (trace_records es))

-- the named file, if what it holds is known, is the text of this history
abbrev pub SavesTrace : Held → List ℕ → List Entry → Type 0
SavesTrace held name es = IfSome (held name) (λ text. text ≡ text_of es)

-- so is the file that is named for a trace, if one is
abbrev pub SavesAnyTrace : Held → Option (Bor (List ℕ)) → List Entry → Type 0
SavesAnyTrace held named es = IfSome named (λ name. SavesTrace held name.now es)

-- the file that is named for a script, if one is and what it holds is known, is the text of the script of this history
abbrev pub SavesAnyScript : Held → Option (Bor (List ℕ)) → List Entry → Type 0
SavesAnyScript held named es = IfSome named (λ name. IfSome (held name.now) (λ text. text ≡ script_text (script_of es)))

-- a writer's text has grown by this one, and the exit status is 0
pub record Shows (shown : List ℕ) (old new : Option (List ℕ)) (exit : ℕ) : Type 0 where
  pub text : Appends old new shown
  pub status : exit ≡ 0

-- the row that says the program's name and version
abbrev pub version_row : List ℕ
version_row = codes "svcsim " ++ (VERSION.now ++ codes "\n")

-- an image of the source, and entries, those of the named trace, for which something holds
abbrev pub IsTracedIn : Held → Traced → (Image → List Entry → Type 0) → Type 0
IsTracedIn held traced Holds =
    (img : Image) × IsOfSource held traced.image img × (es : List Entry) × IsTraceIn held traced.trace.now es
    × Holds img es

-- the request was done with this exit status, given what the files held before and hold now, and what the writer held
-- before and holds now
abbrev pub Does : Request → (held saved : Held) → (old new : Option (List ℕ)) → ℕ → Type 0
Does (request.Help text) held saved old new exit = Shows (string_bytes text) old new exit
Does request.Version held saved old new exit = Shows version_row old new exit
Does (request.Run run) held saved old new exit =
    (img : Image) × IsOfSource held run.image img × (r : Recorded) × IsRunOf img run.config r
    × GoesBy held run.schedule img run.config r
    × SavesAnyTrace saved run.trace r.entries × ReportsRun run.row r old new exit
Does (request.Sequential tasks) held saved old new exit =
    (img : Image) × IsOfSource held tasks.image img
    × Reports img tasks.most (tasks_run img tasks.most) false None old new exit
Does (request.Depend depended) held saved old new exit =
    (img : Image) × IsOfSource held depended.image img
    × IsNamedIn held depended.names (λ names. TellsNeeds depended.by names img depended.most old new exit)
Does (request.Explore explored) held saved old new exit =
    (img : Image) × IsOfSource held explored.image img
    × IsNamedIn held explored.names (λ names.
    TellsSchedules names img explored.config explored.burst explored.states old new exit)
Does (request.Find explored sought trace) held saved old new exit =
    (img : Image) × IsOfSource held explored.image img
    × IsNamedIn held explored.names
    (λ names. FindsSight names img explored sought (SavesAnyTrace saved trace) old new exit)
Does (request.Observe traced named) held saved old new exit =
    IsTracedIn held traced (λ img es.
    IsNamedIn held named (λ names. TellsSightings names img traced.config es old new exit))
Does (request.Script scripted) held saved old new exit =
    (img : Image) × IsOfSource held scripted.image img
    × (steps : List Step) × IsScriptIn held scripted.events.now steps
    × PlaysScript img scripted.config steps (SavesAnyTrace saved scripted.trace) old new exit
Does (request.Check traced compared script) held saved old new exit =
    IsTracedIn held traced (λ img es. (found : List Entry) × AreSameIn compared found es
    × FindsSound img traced.config found old new exit × SavesAnyScript saved script found
    × LeadsBack img traced.config found)
Does (request.Profile traced to by named) held saved old new exit =
    IsTracedIn held traced (λ img es.
    IsNamedIn held named (λ names. TellsCost to by names img traced.config es old new exit))
Does (request.Show traced shown) held saved old new exit =
    IsTracedIn held traced (λ img es. IsNamedIn held shown.names
    (λ names. TellsMachine shown.at shown.extras names img traced.config es old new exit))
Does (request.Draw traced picture) held saved old new exit =
    IsTracedIn held traced (λ img es. IsDrawn img traced.config es picture.view
    × IsNamedIn held picture.names (λ names. SavesDrawing saved picture img traced.config es names))
    × (new ≡ old) × (exit ≡ 0)
Does (request.Export traced exported) held saved old new exit =
    IsTracedIn held traced (λ img es. Exports saved exported img traced.config es) × (new ≡ old) × (exit ≡ 0)
Does (request.Assemble assembly) held saved old new exit =
    Assembles (text_held held assembly) (saved assembly.image.now) exit
    × IfSome assembly.names (λ name. SavesNames (text_held held assembly) (saved name.now)) × (new ≡ old)
Does (request.List image named) held saved old new exit =
    (img : Image) × IsOfSource held image img × IsNamedIn held named (λ names. Lists names img old new exit)

-- the image that is asked for exists
abbrev pub HasImage : Request → Held → Type 0
HasImage asked held = IfSome (source_of asked) (IsThere held)

-- the script that is asked for is there; one that comes before a schedule has events alone
abbrev pub HasScript : Request → Held → Type 0
HasScript (request.Run run) held = IfSome run.schedule (λ s. HasEvents held s.after)
HasScript (request.Script scripted) held = (steps : List Step) × IsScriptIn held scripted.events.now steps
HasScript _ held = ⊤

-- no file is changed except those to write
abbrev pub KeepsFiles : Request → (held saved : Held) → Type 0
KeepsFiles asked held saved = KeepsAllButBoth (written_by asked) (also_written_by asked) held saved

-- a fault that may come while a file is written or later: that of a file, or of a text
abbrev pub IsLate : Fault → Type 0
IsLate f = (f ≡ fault.File) ⊎ IsReportFault f

-- what is to be written can be: the texts make an image, or the image that is asked for exists
abbrev pub IsReady : Request → Held → Type 0
IsReady (request.Assemble assembly) held = MakesImage (text_held held assembly)
IsReady asked held = HasImage asked held

-- a request that fails has changed no file, unless what is to be written can be and the fault may come that late
abbrev pub Spares : Request → Fault → (held saved : Held) → Type 0
Spares asked f held saved = (saved ≡ held) ⊎ (IsLate f × IsReady asked held)

-- what saving a trace comes to: no file is changed but the named one, and with a fault that one isn't either, or it was
-- being written
pub record SavesAlone {A : Type 0} (name : Option (List ℕ)) (held saved : Held) (answer : Result A Fault) : Type 0 where
  pub kept : KeepsAllBut name held saved
  pub spared : IfErr answer (λ f. IsLate f ⊎ (saved ≡ held))

-- before this fault nothing was printed, unless the output failed
abbrev pub IsQuiet : {O : Type 0} → (old new : O) → Fault → Type 0
IsQuiet old new f = IsOutputFault f ⊎ (new ≡ old)

-- what a request comes to: an exit status, or a fault
--   done: with a status it was done
--   silent: before a fault nothing is printed, unless the output failed
--   order: no fault except one of the image's file comes before the image
--   machine: no fault of the machine or the run comes before the script
--   kept: no file is changed except those to write
--   spared: nor are those at a fault, unless they were being written
pub record IsAnswered {O : Type 0} (contents : O → Option (List ℕ)) (asked : Request) (held saved : Held) (old new : O)
    (answer : Result ℕ Fault) : Type 0 where
  pub done : IfOk answer (Does asked held saved (contents old) (contents new))
  pub silent : IfErr answer (IsQuiet old new)
  pub order : IfErr answer (λ f. IsEarly f ⊎ HasImage asked held)
  pub machine : IfErr answer (λ f. IsRunFault f → HasScript asked held)
  pub kept : KeepsFiles asked held saved
  pub spared : IfErr answer (λ f. Spares asked f held saved)
