-- The script that leads to a history.
use Rattle.std.specs.Prelude.{◌≡◌, ◌+◌, ◌++◌, List, [], map, flat_map, length}
use Rattle.std.specs.List.{AllByRecursion}
use Rattle.svc_base.specs.declared.config.Config.{Config}
use Rattle.svc_image.specs.Image.{Image}
use Rattle.svc_history_laws.specs.declared.entry.Entry.{Entry}
use Rattle.svc_history_laws.specs.declared.entry.Kind.{Kind}
use Rattle.svc_history_laws.specs.declared.entry.Kind.TheVariants.{Assign, Submit, Replace, Cancel, Commit}
use Rattle.svc_history_laws.specs.Legal.{the_arg, the_ask, the_local}
use Rattle.svc_history_laws.specs.Submissions.{turns_of}
use Rattle.svc_history.specs.Recorded.{IsLegal, Recorded}
use Rattle.svc_report.specs.Trace.{row_of}
use Rattle.svc_script.specs.declared.script.Step.{Step}
use Rattle.svc_script.specs.declared.script.StepKind.{StepKind}
use Rattle.svc_script.specs.declared.script.StepKind.TheVariants as step
use Rattle.svc_script.specs.Playing.{Play, PlaysTo}
use Rattle.svc_script.specs.Script.{HasStepRow}

-- what the step that leads to an entry asks for; the turns of a submit are the entry's local turns and its asked one
abbrev pub kind_to : Kind → Entry → StepKind
kind_to Assign e = step.Assign (the_arg e)
kind_to Submit e = step.Submit (the_local e + turns_of (the_ask e))
kind_to Replace e = step.Replace (record { 0 = the_arg e })
kind_to Cancel e = step.Cancel
kind_to Commit e = step.Commit

-- the step that leads to an entry
abbrev pub step_to : Entry → Step
step_to e = record { unit = e.unit; kind = kind_to e.kind e }

-- the script that leads to a history: a step for each entry
abbrev pub script_of : List Entry → List Step
script_of es = map step_to es

-- a run on a machine of the configuration, before any event
pub record IsOpened (img : Image) (config : Config) (r : Recorded) : Type 0 where
  pub image : r.machine.image ≡ img
  pub config_is : r.machine.config ≡ config
  pub legal : IsLegal r
  pub none_yet : r.entries ≡ []

-- no event was refused: these entries are the history, and the lines that were printed are their rows
pub record HasLed (es : List Entry) (start next : Play) : Type 0 where
  pub entries : next.run.entries ≡ es
  pub lines : next.text ≡ start.text ++ flat_map row_of es

-- a script leads to these entries, however it is played from before any event
abbrev pub LeadsTo : Image → Config → List Step → List Entry → Type 0
LeadsTo img config steps es =
    (start next : Play) → IsOpened img config start.run → PlaysTo steps (length steps) start next → HasLed es start next

-- the script of a history can be written, and leads to the history
pub record LeadsBack (img : Image) (config : Config) (es : List Entry) : Type 0 where
  pub rows : AllByRecursion HasStepRow (script_of es)
  pub leads : LeadsTo img config (script_of es) es
