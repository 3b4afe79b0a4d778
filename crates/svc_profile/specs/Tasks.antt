-- The table of a history's tasks: a row for each, in the order in which they begin.
use Rattle.std.specs.Prelude.{ℕ, ◌==◌, Bool, List, [], ◌++◌, Option, Some, None, codes, decimal, flat_map, length}
use Rattle.std.specs.List.{filter, range_with_len}
use Rattle.svc_history_laws.specs.declared.entry.Entry.{Entry}
use Rattle.svc_task_runs.specs.declared.task_run.TaskRun.{TaskRun}
use Rattle.svc_task_runs.specs.Runs.{fate_word, tasks_of}

-- a number, if there is one
abbrev pub optional_text : Option ℕ → List ℕ
optional_text None = []
optional_text (Some n) = decimal n

-- the first columns of a task, each with its comma: what it was
abbrev pub task_front : TaskRun → List ℕ
task_front r =
    decimal r.number ++ (codes "," ++ (decimal r.unit.0 ++ (codes "," ++ (decimal r.entry ++ (codes ","
    ++ (decimal r.first ++ codes ","))))))

-- the last ones: what it did, and what became of it
abbrev pub task_end : TaskRun → List ℕ
task_end r =
    codes "," ++ (decimal r.turns ++ (codes "," ++ (decimal r.loads ++ (codes "," ++ (decimal r.stores ++ (codes ","
    ++ (fate_word r.fate ++ codes "\n")))))))

-- the row of a task; the entry that decided its fate stands between them
abbrev pub task_row : TaskRun → List ℕ
task_row r = task_front r ++ (optional_text r.last ++ task_end r)

abbrev pub task_header : List ℕ
task_header = codes "task,unit,entry,first,last,turns,loads,stores,fate\n"

abbrev pub begins_at : ℕ → TaskRun → Bool
begins_at at r = r.first == at

-- the tasks that begin at the entry at this index
abbrev pub begun_at : List TaskRun → ℕ → List TaskRun
begun_at rs at = filter (begins_at at) rs

-- the tasks that this many entries begin, entry by entry
abbrev pub in_order : ℕ → List TaskRun → List TaskRun
in_order n rs = flat_map (begun_at rs) (range_with_len 0 n)

-- the tasks of a history, in the order in which they begin
abbrev pub tasks_in_order : List Entry → List TaskRun
tasks_in_order es = in_order (length es) (tasks_of es)

-- the table of tasks
abbrev pub task_table : List Entry → List ℕ
task_table es = task_header ++ flat_map task_row (tasks_in_order es)
