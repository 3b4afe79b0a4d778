-- The events of a trace for viewers, as JSON objects. Numbers and fixed words are all that they hold, so nothing needs
-- an escape.
use Rattle.std.specs.Prelude.{ℕ, List, [], ◌∷◌, ◌++◌, Option, Some, None, codes, decimal}
use Rattle.std.specs.List.{concat}
use Rattle.svc_base.specs.declared.ids.WordAddr.{WordAddr}
use Rattle.svc_history_laws.specs.declared.entry.ServedKind.{ServedKind}
use Rattle.svc_report.specs.Fields.{served_word}
use Rattle.svc_task_runs.specs.declared.task_run.TaskRun.{TaskRun}
use Rattle.svc_export.specs.declared.flows.Flow.{Flow}
use Rattle.svc_export.specs.declared.flows.Way.{Way}
use Rattle.svc_export.specs.declared.flows.Way.TheVariants as way

-- ---- the tracks

-- the list of events, with the process of all tracks
unfoldable pub opening : List ℕ
opening = codes "{\"traceEvents\":[\n{\"name\":\"process_name\",\"ph\":\"M\",\"pid\":0,\"args\":{\"name\":\"svcsim\"}}"

unfoldable pub closing : List ℕ
closing = codes "\n]}\n"

-- the name of a unit's track
unfoldable pub track : (unit : ℕ) → List ℕ
track unit =
    concat (codes ",\n{\"name\":\"thread_name\",\"ph\":\"M\",\"pid\":0,\"tid\":" ∷ decimal unit
    ∷ codes ",\"args\":{\"name\":\"unit "
    ∷ decimal unit ∷ codes "\"}}" ∷ [])

-- ---- slices

-- a task that begins at an address, on a unit, from an entry on and for as many
unfoldable pub slice : (task address : ℕ) → (fate : List ℕ) → (unit start count : ℕ) → List ℕ
slice task address fate unit start count =
    concat (codes ",\n{\"name\":\"task " ∷ decimal task ∷ codes "\",\"cat\":\"" ∷ fate ∷ codes "\",\"ph\":\"X\",\"ts\":"
    ∷ decimal start
    ∷ codes ",\"dur\":" ∷ decimal count ∷ codes ",\"pid\":0,\"tid\":" ∷ decimal unit ∷ codes ",\"args\":{\"task\":"
    ∷ decimal task
    ∷ codes ",\"address\":" ∷ decimal address ∷ codes "}}" ∷ [])

-- ---- arguments that may not apply

abbrev pub number_field : (key : List ℕ) → Option ℕ → List ℕ
number_field key None = []
number_field key (Some number) = concat (codes ",\"" ∷ key ∷ codes "\":" ∷ decimal number ∷ [])

abbrev pub task_field : Option TaskRun → List ℕ
task_field None = []
task_field (Some task) = number_field (codes "task") (Some task.number)

abbrev pub word_field : Option WordAddr → List ℕ
word_field None = []
word_field (Some word) = number_field (codes "word") (Some word.0)

-- who supplied what was read
abbrev pub supplier_field : Option ServedKind → List ℕ
supplier_field None = []
supplier_field (Some served) = concat (codes ",\"by\":\"" ∷ served_word served ∷ codes "\"" ∷ [])

-- ---- instants

-- what an entry did on its unit's track, with room for more arguments
unfoldable pub instant : (name : List ℕ) → (entry unit : ℕ) → List ℕ
instant name entry unit =
    concat (codes ",\n{\"name\":\"" ∷ name ∷ codes "\",\"ph\":\"i\",\"s\":\"t\",\"ts\":" ∷ decimal entry
    ∷ codes ",\"pid\":0,\"tid\":"
    ∷ decimal unit ∷ codes ",\"args\":{\"entry\":" ∷ decimal entry ∷ [])

-- the end of an event's arguments
unfoldable pub event_end : List ℕ
event_end = codes "}}"

-- ---- flows

-- what a way is called; the digit that its flow's number begins with, before the number of the entry that made it
abbrev pub way_name : Way → List ℕ
way_name way.Version = codes "version"
way_name way.Violation = codes "violation"

abbrev pub way_digit : Way → List ℕ
way_digit way.Version = codes "1"
way_digit way.Violation = codes "2"

-- an end of a flow, at an entry on a unit's track; its phase says which
unfoldable pub flow_end : (name phase digit : List ℕ) → (number entry unit : ℕ) → List ℕ
flow_end name phase digit number entry unit =
    concat (codes ",\n{\"name\":\"" ∷ name ∷ codes "\",\"cat\":\"flow\",\"ph\":\"" ∷ phase ∷ codes "\",\"id\":" ∷ digit
    ∷ decimal number
    ∷ codes ",\"ts\":" ∷ decimal entry ∷ codes ",\"pid\":0,\"tid\":" ∷ decimal unit ∷ [])

-- from the store to the entry that made it; with the entry of the store, and room for more arguments
unfoldable pub flow_ends : Flow → List ℕ
flow_ends f =
    flow_end (way_name f.way) (codes "s") (way_digit f.way) f.number f.store f.storer.0 ++ codes "}"
    ++ flow_end (way_name f.way) (codes "f\",\"bp\":\"e") (way_digit f.way) f.number f.number f.reader.0
    ++ concat (codes ",\"args\":{\"store\":" ∷ decimal f.store ∷ [])

unfoldable pub flow_text : Flow → List ℕ
flow_text f = flow_ends f ++ number_field (codes "read") f.read ++ word_field f.word ++ event_end
