-- What a picture shows, as rows: its bars, its marks and its arrows.
use Rattle.std.specs.Prelude.{ℕ, List, [], ◌∷◌, ◌++◌, Option, Some, None, codes, decimal, flat_map}
use Rattle.std.specs.List.{concat}
use Rattle.svc_base.specs.declared.ids.WordAddr.{WordAddr}
use Rattle.svc_history_laws.specs.declared.entry.Entry.{Entry}
use Rattle.svc_text.specs.Parts.{digits_of}
use Rattle.svc_report.specs.Fields.{optional, served_word}
use Rattle.svc_task_runs.specs.Runs.{fate_word}
use Rattle.svc_task_runs.specs.declared.task_run.TaskRun.{TaskRun}
use Rattle.svc_marks.specs.declared.bars.Bar.{Bar}
use Rattle.svc_marks.specs.declared.marks.Mark.{Mark}
use Rattle.svc_marks.specs.declared.marks.MarkKind.{MarkKind}
use Rattle.svc_marks.specs.declared.marks.MarkKind.TheVariants as mark
use Rattle.svc_marks.specs.declared.marks.Spot.{Spot}
use Rattle.svc_marks.specs.declared.view.View.{View}
use Rattle.svc_marks.specs.View.{bars_shown, marks_shown}

-- a task, its unit, where it began, its first entry and the one that decided its fate, if one did, and its fate
unfoldable pub bar_fields : (task unit entry first : ℕ) → (last : Option ℕ) → (fate : List ℕ) → List ℕ
bar_fields task unit entry first last fate =
    concat (codes "bar," ∷ decimal task ∷ codes "," ∷ decimal unit ∷ codes "," ∷ decimal entry ∷ codes ","
    ∷ decimal first ∷ codes ","
    ∷ digits_of last ∷ codes "," ∷ fate ∷ codes "\n" ∷ [])

abbrev pub bar_row : Bar → List ℕ
bar_row b = bar_fields b.task.number b.task.unit.0 b.task.entry b.task.first b.task.last (fate_word b.task.fate)

-- an entry, its unit and its task, what it did, the word and its value, and who supplied it
unfoldable pub mark_fields : (entry unit : ℕ) → (task : Option ℕ) → (kind : List ℕ) → (word value : Option ℕ)
    → (by : List ℕ) → List ℕ
mark_fields entry unit task kind word value by =
    concat (codes "mark," ∷ decimal entry ∷ codes "," ∷ decimal unit ∷ codes "," ∷ digits_of task ∷ codes "," ∷ kind
    ∷ codes ","
    ∷ digits_of word ∷ codes "," ∷ digits_of value ∷ codes "," ∷ by ∷ codes "\n" ∷ [])

-- from one entry to another, neither of which has to be shown
unfoldable pub arrow_fields : (from to : Option ℕ) → (kind : List ℕ) → (word : Option ℕ) → List ℕ
arrow_fields from to kind word =
    concat (codes "arrow," ∷ digits_of from ∷ codes "," ∷ digits_of to ∷ codes "," ∷ kind ∷ codes "," ∷ digits_of word
    ∷ codes "\n" ∷ [])

-- the number of a task; a word's; where an arrow's other end stands
abbrev pub task_number : Option TaskRun → Option ℕ
task_number None = None
task_number (Some task) = Some task.number

abbrev pub word_number : Option WordAddr → Option ℕ
word_number None = None
word_number (Some word) = Some word.0

abbrev pub other_place : Option Spot → Option ℕ
other_place None = None
other_place (Some spot) = spot.place

-- a mark that is a shape, of this kind
unfoldable pub shape_row : Mark → (kind : List ℕ) → List ℕ
shape_row m kind =
    mark_fields m.place m.entry.unit.0 (task_number m.task) kind (word_number m.entry.addr) m.entry.word
    (optional served_word m.entry.served)

-- the row of a mark of a kind
abbrev pub row_of_kind : Mark → MarkKind → List ℕ
row_of_kind m mark.Load = shape_row m (codes "load")
row_of_kind m mark.Store = shape_row m (codes "store")
row_of_kind m mark.PutOut = shape_row m (codes "output")
row_of_kind m mark.Replace = shape_row m (codes "replace")
row_of_kind m mark.Commit = shape_row m (codes "commit")
row_of_kind m mark.Handed =
    arrow_fields (other_place m.other) (Some m.place) (codes "version") (word_number m.entry.addr)
row_of_kind m mark.Squash =
    arrow_fields (Some m.place) (other_place m.other) (codes "violation") (word_number m.entry.addr)

abbrev pub mark_row : Mark → List ℕ
mark_row m = row_of_kind m m.kind

-- those that are shown of a history
unfoldable pub rows_of : List Entry → View → List ℕ
rows_of es v = flat_map bar_row (bars_shown es v) ++ flat_map mark_row (marks_shown es v)
