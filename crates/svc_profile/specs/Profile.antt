-- What speculation cost: how much committed, squashed and active tasks did, and who served reads.
use Rattle.std.specs.Prelude.{ℕ, Bool, true, false, cond, List, [], ◌∷◌, ◌++◌, codes, decimal, flat_map, length}
use Rattle.std.specs.List.{sum_by}
use Rattle.svc_history_laws.specs.declared.entry.Entry.{Entry}
use Rattle.svc_history_laws.specs.declared.entry.ServedKind.{ServedKind}
use Rattle.svc_history_laws.specs.declared.entry.ServedKind.TheVariants as served
use Rattle.svc_report.specs.declared.counts.Counts.{Counts}
use Rattle.svc_report.specs.Fields.{served_word}
use Rattle.svc_report.specs.Summary.{counts_of}
use Rattle.svc_task_runs.specs.declared.task_run.Fate.{Fate}
use Rattle.svc_task_runs.specs.declared.task_run.Fate.TheVariants as fate
use Rattle.svc_task_runs.specs.declared.task_run.TaskRun.{TaskRun}
use Rattle.svc_profile.specs.declared.totals.Group.{Group}
use Rattle.svc_profile.specs.declared.totals.Group.TheVariants as group
use Rattle.svc_profile.specs.declared.totals.Measure.{Measure}
use Rattle.svc_profile.specs.declared.totals.Measure.TheVariants as measure
use Rattle.svc_profile.specs.declared.totals.Total.{Total}
use Rattle.svc_task_runs.specs.Runs.{tasks_of}

-- a task with this fate is one of the group
abbrev pub is_of : Group → Fate → Bool
is_of group.Begun f = true
is_of group.Committed fate.Committed = true
is_of group.Violation fate.Violation = true
is_of group.Guess fate.Guess = true
is_of group.Cancel fate.Cancel = true
is_of group.Squashed fate.Violation = true
is_of group.Squashed fate.Guess = true
is_of group.Squashed fate.Cancel = true
is_of group.Active fate.Active = true
is_of _ _ = false

-- how much of the measure a task has
abbrev pub measured : Measure → TaskRun → ℕ
measured measure.Tasks r = 1
measured measure.Turns r = r.turns
measured measure.Loads r = r.loads
measured measure.Stores r = r.stores

-- the same for a task of the group, 0 for another
abbrev pub part_of : Total → TaskRun → ℕ
part_of t r = cond (is_of t.group r.fate) (measured t.measure r) 0

-- how much of the measure the tasks of the group have together
abbrev pub total : List TaskRun → Total → ℕ
total rs t = sum_by (part_of t) rs

abbrev pub measure_word : Measure → List ℕ
measure_word measure.Tasks = codes "tasks"
measure_word measure.Turns = codes "turns"
measure_word measure.Loads = codes "loads"
measure_word measure.Stores = codes "stores"

abbrev pub group_word : Group → List ℕ
group_word group.Begun = codes "begun"
group_word group.Committed = codes "committed"
group_word group.Violation = codes "violation"
group_word group.Guess = codes "guess"
group_word group.Cancel = codes "cancel"
group_word group.Squashed = codes "squashed"
group_word group.Active = codes "active"

-- a row ends with a comma, a count and a line feed
abbrev pub count_end : ℕ → List ℕ
count_end n = codes "," ++ (decimal n ++ codes "\n")

-- a row of a name and a count
abbrev pub count_row : List ℕ → ℕ → List ℕ
count_row name n = name ++ count_end n

-- the row of a total
abbrev pub total_row : List TaskRun → Total → List ℕ
total_row rs t = measure_word t.measure ++ (codes "-" ++ (group_word t.group ++ count_end (total rs t)))

abbrev pub total_of : Measure → Group → Total
total_of m g = record { measure = m; group = g }

-- the totals that are reported, in their order
abbrev pub totals_told : List Total
totals_told =
    total_of measure.Tasks group.Begun ∷ total_of measure.Tasks group.Committed
    ∷ total_of measure.Tasks group.Violation ∷ total_of measure.Tasks group.Guess ∷ total_of measure.Tasks group.Cancel
    ∷ total_of measure.Tasks group.Active
    ∷ total_of measure.Turns group.Committed ∷ total_of measure.Turns group.Squashed
    ∷ total_of measure.Turns group.Active
    ∷ total_of measure.Loads group.Committed ∷ total_of measure.Loads group.Squashed
    ∷ total_of measure.Loads group.Active
    ∷ total_of measure.Stores group.Committed ∷ total_of measure.Stores group.Squashed
    ∷ total_of measure.Stores group.Active ∷ []

-- how many reads this supplier served
abbrev pub served_count : Counts → ServedKind → ℕ
served_count c served.Hit = c.hit
served_count c served.Reuse = c.reuse
served_count c served.Version = c.version
served_count c served.Spill = c.spill
served_count c served.Committed = c.committed
served_count c served.Memory = c.memory

abbrev pub served_row : Counts → ServedKind → List ℕ
served_row c k = codes "served-" ++ (served_word k ++ count_end (served_count c k))

-- the suppliers that are reported, in their order
abbrev pub suppliers_told : List ServedKind
suppliers_told = served.Hit ∷ served.Reuse ∷ served.Version ∷ served.Spill ∷ served.Committed ∷ served.Memory ∷ []

-- the text of a history's profile
abbrev pub profile_of : List Entry → List ℕ
profile_of es =
    count_row (codes "events") (length es)
    ++ (flat_map (total_row (tasks_of es)) totals_told
    ++ (flat_map (served_row (counts_of es)) suppliers_told
    ++ count_row (codes "replaced") (counts_of es).replace))
