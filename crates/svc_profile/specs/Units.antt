-- The table of units: a row for each, with totals over the tasks that it ran.
use Rattle.std.specs.Prelude.{ℕ, ◌==◌, Bool, List, [], ◌∷◌, ◌++◌, codes, decimal, flat_map}
use Rattle.std.specs.List.{filter, range_with_len}
use Rattle.svc_history_laws.specs.declared.entry.Entry.{Entry}
use Rattle.svc_text.specs.Rows.{field}
use Rattle.svc_task_runs.specs.declared.task_run.TaskRun.{TaskRun}
use Rattle.svc_profile.specs.declared.totals.Group.TheVariants as group
use Rattle.svc_profile.specs.declared.totals.Measure.TheVariants as measure
use Rattle.svc_profile.specs.declared.totals.Total.{Total}
use Rattle.svc_profile.specs.Profile.{total, total_of}
use Rattle.svc_task_runs.specs.Runs.{tasks_of}

abbrev pub is_on : ℕ → TaskRun → Bool
is_on unit r = r.unit.0 == unit

-- the tasks that the unit ran
abbrev pub tasks_on : List TaskRun → ℕ → List TaskRun
tasks_on rs unit = filter (is_on unit) rs

-- what is reported for a unit, in order
abbrev pub unit_columns : List Total
unit_columns =
    total_of measure.Tasks group.Begun ∷ total_of measure.Tasks group.Committed ∷ total_of measure.Tasks group.Squashed
    ∷ total_of measure.Turns group.Committed ∷ total_of measure.Turns group.Squashed
    ∷ total_of measure.Loads group.Begun ∷ total_of measure.Stores group.Begun ∷ []

-- a further column
abbrev pub total_column : List TaskRun → Total → List ℕ
total_column rs t = field (total rs t)

-- the row of a unit
abbrev pub unit_row : List TaskRun → ℕ → List ℕ
unit_row rs unit = decimal unit ++ (flat_map (total_column (tasks_on rs unit)) unit_columns ++ codes "\n")

abbrev pub unit_header : List ℕ
unit_header = codes "unit,begun,committed,squashed,turns-committed,turns-squashed,loads,stores\n"

-- the rows of this many units
abbrev pub unit_rows : ℕ → List TaskRun → List ℕ
unit_rows units rs = flat_map (unit_row rs) (range_with_len 0 units)

-- the table of this many units
abbrev pub unit_table : ℕ → List Entry → List ℕ
unit_table units es = unit_header ++ unit_rows units (tasks_of es)
