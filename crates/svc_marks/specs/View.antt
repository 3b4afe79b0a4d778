-- What of a history is shown: some of its entries, and of these some of their bars and marks.
use Rattle.std.specs.Prelude.{ℕ, ◌+◌, Bool, true, false, ◌&&◌, List, Option, Some, None, filter, length, unwrap_or}
use Rattle.svc_base.specs.declared.ids.WordAddr.{WordAddr}
use Rattle.svc_history_laws.specs.declared.entry.Entry.{Entry}
use Rattle.svc_task_runs.specs.declared.task_run.TaskRun.{TaskRun}
use Rattle.svc_span.specs.declared.span.Span.{Span}
use Rattle.svc_span.specs.Span.{in_span}
use Rattle.svc_marks.specs.declared.bars.Bar.{Bar}
use Rattle.svc_marks.specs.declared.bars.Window.{Window}
use Rattle.svc_marks.specs.declared.marks.Mark.{Mark}
use Rattle.svc_marks.specs.declared.view.Choice.{Choice}
use Rattle.svc_marks.specs.declared.view.View.{View}
use Rattle.svc_marks.specs.Bars.{bars_of, window_of}
use Rattle.svc_marks.specs.Marks.{marks_of}

-- ---- which bars and marks

-- a number is one of those chosen: without a span, each is
abbrev pub is_chosen : Option Span → (number : ℕ) → Bool
is_chosen None number = true
is_chosen (Some s) number = in_span s number

-- so is a task, by its number; without a task, none is
abbrev pub is_chosen_task : Option Span → Option TaskRun → Bool
is_chosen_task None task = true
is_chosen_task (Some s) None = false
is_chosen_task (Some s) (Some task) = in_span s task.number

-- so is a word, and what has no word
abbrev pub is_chosen_word : Option Span → Option WordAddr → Bool
is_chosen_word chosen None = true
is_chosen_word chosen (Some word) = is_chosen chosen word.0

-- a bar is shown: its unit and its task are chosen
abbrev pub has_bar : Choice → Bar → Bool
has_bar c b = is_chosen c.units b.task.unit.0 && is_chosen c.tasks b.task.number

-- a mark is shown: the unit of its entry, the task that runs there and its word are chosen
abbrev pub has_mark : Choice → Mark → Bool
has_mark c m =
    is_chosen c.units m.entry.unit.0 && (is_chosen_task c.tasks m.task && is_chosen_word c.words m.entry.addr)

-- ---- which entries

-- the entry after the last that may be shown, if there is such an end
abbrev pub end_shown : (from : ℕ) → (count : Option ℕ) → Option ℕ
end_shown from None = None
end_shown from (Some count) = Some (from + count)

-- the entries that are shown of these: at most so many, or all from the first one on
abbrev pub window_shown : List Entry → View → Window
window_shown es v = window_of es v.from (unwrap_or v.count (length es))

-- ---- all of it

-- the bars that are shown of a history, and the marks
abbrev pub bars_shown : List Entry → View → List Bar
bars_shown es v = filter (has_bar v.choice) (bars_of es (window_shown es v))

abbrev pub marks_shown : List Entry → View → List Mark
marks_shown es v =
    filter (has_mark v.choice) (marks_of es (window_shown es v) (bars_of es (window_shown es v)))
