-- What a request comes to, put together of what its parts say.
use Rattle.std.specs.Prelude.{IfOk, IfErr, IfSome}
use Rattle.std.proofs.Common.{◌≡◌, ◌⊎◌, ℕ, List, [], length, false, Option, Some, None, Result, Ok, Err, inl, inr, refl, subst, sym}
use denote.Ref.{Bor}
use Rattle.std.specs.Option.{option_copied}
use Rattle.svc_names.specs.declared.names.Names.{Names}
use Rattle.svc_image.specs.Image.{Image}
use Rattle.svc_plain.specs.Tasks.{tasks_run}
use Rattle.svc_base.specs.declared.config.Config.{Config}
use Rattle.svc_history_laws.specs.declared.entry.Entry.{Entry}
use Rattle.svc_history_laws.specs.Legal.{LegalHistory}
use Rattle.svc_history.specs.Recorded.{Recorded}
use Rattle.svc_request.specs.declared.faults.Fault.{Fault}
use Rattle.svc_request.specs.declared.faults.Fault.TheVariants as fault
use Rattle.svc_request.specs.declared.request.Source.{Source}
use Rattle.svc_request.specs.declared.request.Request.{Request}
use Rattle.svc_request.specs.declared.request.Request.TheVariants as request
use Rattle.svc_script.specs.declared.script.Step.{Step}
use Rattle.svc_request.specs.declared.request.Order.{Order}
use Rattle.svc_request.specs.declared.request.Run.{Run}
use Rattle.svc_request.specs.declared.request.Schedule.{Schedule}
use Rattle.svc_request.specs.declared.request.Scripted.{Scripted}
use Rattle.std.specs.List.{AllByRecursion}
use Rattle.svc_report.specs.Trace.{HasRow}
use Rattle.svc_request.specs.declared.request.Compared.{Compared}
use Rattle.svc_request.specs.declared.request.Depended.{Depended}
use Rattle.svc_request.specs.declared.request.Tasks.{Tasks}
use Rattle.svc_request.specs.declared.request.Traced.{Traced}
use Rattle.svc_request.specs.Faults.{IsEarly, IsOutputFault, IsReportFault, IsRunFault}
use Rattle.svc_request.specs.Held.{Held, KeepsAllBut, KeepsAllButBoth}
use Rattle.svc_request.specs.Names.{also_written_by, written_by}
use Rattle.svc_answer.specs.Named.{AreNamesIn, IsNamedIn}
use Rattle.svc_answer.specs.Needs.{TellsNeeds}
use Rattle.svc_answer.specs.Requests.{AreEventsIn, Does, GoesAfter, GoesBy, HasImage, HasScript, IsAnswered, IsOfSource, IsQuiet, IsReady, IsScriptIn, IsTracedIn, IsTraceIn, KeepsFiles, SavesAlone, SavesAnyScript, SavesAnyTrace, Shows, Spares}
use Rattle.svc_answer.specs.Runs.{AreSameIn, FindsSound, IsRunOf, Reports, ReportsRun, sound_row}
use Rattle.svc_script.proofs.LeadingBack.{led_back}
use Rattle.svc_answer.specs.Scripts.{PlaysScript}

-- where no file is changed, none is but the one that is to be written
pub all_kept : (name : Option (List ℕ)) (held : Held) → KeepsAllBut name held held
all_kept None held = refl
all_kept (Some name) held = λ other differs. refl

-- the same of two
pub both_kept : (first second : Option (List ℕ)) (held : Held) → KeepsAllButBoth first second held held
both_kept first None held = all_kept first held
both_kept first (Some second) held = λ other apart differs. refl

-- a fault before anything is printed or saved
pub given_up : {O : Type 0} (contents : O → Option (List ℕ)) (asked : Request) (held : Held) (old new : O) (f : Fault)
    → IsEarly f ⊎ HasImage asked held → (IsRunFault f → HasScript asked held) → new ≡ old → IsAnswered contents asked held held old new (Err f)
given_up contents asked held old new f order machine quiet = record {
  done = tt;
  silent = inr quiet;
  order = order;
  machine = machine;
  kept = both_kept (written_by asked) (also_written_by asked) held;
  spared = inl refl;
}

-- with the image there, what is done of it or why not
pub answered : {O : Type 0} (contents : O → Option (List ℕ)) (asked : Request) (held saved : Held) (old new : O) (r : Result ℕ Fault)
    → HasImage asked held → HasScript asked held → IfOk r (Does asked held saved (contents old) (contents new)) → IfErr r (IsQuiet old new)
    → KeepsFiles asked held saved → IfErr r (λ f. Spares asked f held saved) → IsAnswered contents asked held saved old new r
answered contents asked held saved old new (Ok exit) image script done silent kept spared =
    record { done = done; silent = tt; order = tt; machine = tt; kept = kept; spared = tt }
answered contents asked held saved old new (Err f) image script done silent kept spared =
    record { done = tt; silent = silent; order = inr image; machine = λ run. script; kept = kept; spared = spared }

output_fault : (f : Fault) → IsReportFault f → IsOutputFault f
output_fault (fault.Report e) is = tt
output_fault _ is = absurd is

-- before a fault that isn't one of the output nothing is printed
pub silent_else : {O : Type 0} (old new : O) (r : Result ℕ Fault) (Other : Fault → Type 0)
    → IfErr r (λ f. IsOutputFault f ⊎ (Other f × (new ≡ old))) → IfErr r (IsQuiet old new)
silent_else old new (Ok exit) Other said = tt
silent_else old new (Err f) Other (inl output) = inl output
silent_else old new (Err f) Other (inr other) = inr (other.1)

-- the same, where a fault of a text is one of the output
pub silent_before : {O : Type 0} (old new : O) (r : Result ℕ Fault) (Other : Fault → Type 0)
    → IfErr r (λ f. IsReportFault f ⊎ (Other f × (new ≡ old))) → IfErr r (IsQuiet old new)
silent_before old new (Ok exit) Other said = tt
silent_before old new (Err f) Other (inl text) = inl (output_fault f text)
silent_before old new (Err f) Other (inr other) = inr (other.1)

on_err : (r : Result ℕ Fault) (P : Fault → Type 0) → ((f : Fault) → P f) → IfErr r P
on_err (Ok exit) P all = tt
on_err (Err f) P all = all f

-- a file that isn't saved may hold anything, since there was something to save
pub failed_save : (asked : Request) (held saved : Held) (r : Result ℕ Fault) → IfErr r (λ f. f ≡ fault.File) → IsReady asked held → IfErr r (λ f. Spares asked f held saved)
failed_save asked held saved (Ok exit) is ready = tt
failed_save asked held saved (Err f) is ready = inr (inl is, ready)

-- the same where no file is changed
pub answered_reading : {O : Type 0} (contents : O → Option (List ℕ)) (asked : Request) (held : Held) (old new : O) (r : Result ℕ Fault)
    → HasImage asked held → HasScript asked held → IfOk r (Does asked held held (contents old) (contents new)) → IfErr r (IsQuiet old new)
    → IsAnswered contents asked held held old new r
answered_reading contents asked held old new r image script done silent =
    answered contents asked held held old new r image script done silent (both_kept (written_by asked) (also_written_by asked) held)
    (on_err r (λ f. Spares asked f held held) (λ f. inl refl))

-- what is done of an image and a trace that were loaded
pub of_loaded : (r : Result ℕ Fault) (held : Held) (traced : Traced) (img : Image) (es : List Entry) (Holds : Image → List Entry → ℕ → Type 0)
    → IsOfSource held traced.image img → IsTraceIn held traced.trace.now es → IfOk r (Holds img es)
    → IfOk r (λ exit. IsTracedIn held traced (λ i xs. Holds i xs exit))
of_loaded (Ok exit) held traced img es Holds image trace holds = (img, image, es, trace, holds)
of_loaded (Err f) held traced img es Holds image trace holds = tt

-- what is done with the names that were loaded
pub of_named : (r : Result ℕ Fault) (held : Held) (asked : Option (Bor (List ℕ))) (loaded : Option Names) (given : Option (Bor Names)) (Tells : Option (Bor Names) → ℕ → Type 0)
    → AreNamesIn held asked loaded → option_copied given ≡ loaded → IfOk r (Tells given) → IfOk r (λ exit. IsNamedIn held asked (λ names. Tells names exit))
of_named (Ok exit) held asked loaded given Tells are same holds = (given, subst (AreNamesIn held asked) (sym same) are, holds)
of_named (Err f) held asked loaded given Tells are same holds = tt

-- what is done of an image that was loaded
pub of_image : (r : Result ℕ Fault) (held : Held) (source : Source) (img : Image) (Holds : Image → ℕ → Type 0)
    → IsOfSource held source img → IfOk r (Holds img) → IfOk r (λ exit. (i : Image) × IsOfSource held source i × Holds i exit)
of_image (Ok exit) held source img Holds image holds = (img, image, holds)
of_image (Err f) held source img Holds image holds = tt

-- the needs of tasks, with the names that were loaded
pub needs_answered : {O : Type 0} (contents : O → Option (List ℕ)) (depended : Depended) (held : Held) (old new : O) (r : Result ℕ Fault) (img : Image)
    → IsOfSource held depended.image img
    → IfOk r (λ exit. IsNamedIn held depended.names (λ names. TellsNeeds depended.by names img depended.most (contents old) (contents new) exit))
    → IfErr r (IsQuiet old new) → IsAnswered contents (request.Depend depended) held held old new r
needs_answered contents depended held old new (Ok exit) img image tells silent =
    record { done = (img, image, tells); silent = tt; order = tt; machine = tt; kept = refl; spared = tt }
needs_answered contents depended held old new (Err f) img image tells silent =
    record { done = tt; silent = silent; order = inr (img, image); machine = λ run. tt; kept = refl; spared = inl refl }

-- a run that went by a schedule had its script
went_after : (held : Held) (after : Option (Bor (List ℕ))) (by : Order) (burst : ℕ) (img : Image) (config : Config) (r : Recorded) → GoesAfter held after by burst img config r → (steps : List Step) × AreEventsIn held after steps
went_after held None by burst img config r goes = ([], refl)
went_after held (Some name) by burst img config r (steps, script, events, goes) = (steps, (script, events))

went_by : (held : Held) (schedule : Option Schedule) (img : Image) (config : Config) (r : Recorded) → GoesBy held schedule img config r → IfSome schedule (λ s. (steps : List Step) × AreEventsIn held s.after steps)
went_by held None img config r goes = tt
went_by held (Some s) img config r goes = went_after held s.after s.order s.burst img config r goes

-- a fault of the image's file is none of the run
pub early_first : (f : Fault) (P : Type 0) → IsEarly f → IsRunFault f → P
early_first (fault.Image e) P early run = absurd run
early_first fault.File P early run = absurd run
early_first _ P early run = absurd early

-- a run: its trace is saved where a file is named for it, and its report printed
pub run_answered : {O : Type 0} (contents : O → Option (List ℕ)) (run : Run) (held saved : Held) (old new : O) (r : Result ℕ Fault) (img : Image) (recorded : Recorded)
    → IsOfSource held run.image img → IsRunOf img run.config recorded → GoesBy held run.schedule img run.config recorded
    → IfOk r (λ _. SavesAnyTrace saved run.trace recorded.entries) → IfOk r (ReportsRun run.row recorded (contents old) (contents new))
    → IfErr r (IsQuiet old new) → SavesAlone (written_by (request.Run run)) held saved r
    → IsAnswered contents (request.Run run) held saved old new r
run_answered contents run held saved old new (Ok exit) img recorded image is_run goes trace report silent alone = record {
  done = (img, image, recorded, is_run, goes, trace, report);
  silent = tt;
  order = tt;
  machine = tt;
  kept = alone.kept;
  spared = tt;
}
run_answered contents run held saved old new (Err f) img recorded image is_run goes trace report silent alone = record {
  done = tt;
  silent = silent;
  order = inr (img, image);
  machine = λ fails. went_by held run.schedule img run.config recorded goes;
  kept = alone.kept;
  spared = elim (alone.spared) [ inl late ↦ inr (late, (img, image)) | inr keeps ↦ inl keeps ];
}

-- a script: the trace of what it led to is saved where a file is named for it, and its lines printed
pub script_answered : {O : Type 0} (contents : O → Option (List ℕ)) (scripted : Scripted) (held saved : Held) (old new : O) (r : Result ℕ Fault) (img : Image) (steps : List Step)
    → IsOfSource held scripted.image img → IsScriptIn held scripted.events.now steps
    → IfOk r (PlaysScript img scripted.config steps (SavesAnyTrace saved scripted.trace) (contents old) (contents new))
    → IfErr r (IsQuiet old new) → SavesAlone (written_by (request.Script scripted)) held saved r
    → IsAnswered contents (request.Script scripted) held saved old new r
script_answered contents scripted held saved old new (Ok exit) img steps image script plays silent alone =
    record { done = (img, image, steps, script, plays); silent = tt; order = tt; machine = tt; kept = alone.kept; spared = tt }
script_answered contents scripted held saved old new (Err f) img steps image script plays silent alone = record {
  done = tt;
  silent = silent;
  order = inr (img, image);
  machine = λ fails. (steps, script);
  kept = alone.kept;
  spared = elim (alone.spared) [ inl late ↦ inr (late, (img, image)) | inr keeps ↦ inl keeps ];
}

-- tasks in order: their summary is printed
pub run_in_order : {O : Type 0} (contents : O → Option (List ℕ)) (tasks : Tasks) (held : Held) (old new : O) (r : Result ℕ Fault) (img : Image)
    → IsOfSource held tasks.image img → IfOk r (Reports img tasks.most (tasks_run img tasks.most) false None (contents old) (contents new))
    → IfErr r (IsQuiet old new) → IsAnswered contents (request.Sequential tasks) held held old new r
run_in_order contents tasks held old new (Ok exit) img image report silent =
    record { done = (img, image, report); silent = tt; order = tt; machine = tt; kept = refl; spared = tt }
run_in_order contents tasks held old new (Err f) img image report silent =
    record {
      done = tt;
      silent = silent;
      order = inr (img, image);
      machine = λ run. tt;
      kept = refl;
      spared = inl refl;
    }

sound_told : (r : Result ℕ Fault) (img : Image) (config : Config) (es : List Entry) (old new : Option (List ℕ)) → LegalHistory img config es → IfOk r (Shows (sound_row (length es)) old new)
    → IfOk r (FindsSound img config es old new)
sound_told (Ok exit) img config es old new legal shown = record { legal = legal; text = shown.text; status = shown.status }
sound_told (Err f) img config es old new legal shown = tt

-- a check: the replayed entries are the trace's in the columns that are compared; the script that leads to them is saved
-- where a file is named for it, and the trace's row printed
pub check_answered : {O : Type 0} (contents : O → Option (List ℕ)) (traced : Traced) (compared : Compared) (script : Option (Bor (List ℕ))) (held saved : Held) (old new : O) (r : Result ℕ Fault) (img : Image) (es found : List Entry)
    → IsOfSource held traced.image img → IsTraceIn held traced.trace.now es
    → AreSameIn compared found es → AllByRecursion HasRow found → LegalHistory img traced.config found
    → IfOk r (Shows (sound_row (length found)) (contents old) (contents new))
    → IfOk r (λ _. SavesAnyScript saved script found)
    → IfErr r (IsQuiet old new) → SavesAlone (written_by (request.Check traced compared script)) held saved r
    → IsAnswered contents (request.Check traced compared script) held saved old new r
check_answered contents traced compared script held saved old new (Ok exit) img es found image trace same rows legal shown saves silent alone = record {
  done = (
    img,
    image,
    es,
    trace,
    (
      found,
      same,
      sound_told (Ok exit) img traced.config found (contents old) (contents new) legal shown,
      saves,
      led_back img image.sound traced.config found legal rows,
    ),
  );
  silent = tt;
  order = tt;
  machine = tt;
  kept = alone.kept;
  spared = tt;
}
check_answered contents traced compared script held saved old new (Err f) img es found image trace same rows legal shown saves silent alone = record {
  done = tt;
  silent = silent;
  order = inr (img, image);
  machine = λ fails. tt;
  kept = alone.kept;
  spared = elim (alone.spared) [ inl late ↦ inr (late, (img, image)) | inr keeps ↦ inl keeps ];
}
