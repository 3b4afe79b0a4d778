-- A profile as a row of a table.
use Rattle.std.specs.Prelude.{ℕ, List, [], ◌∷◌, ◌++◌, codes, decimal, length, map}
use Rattle.svc_history_laws.specs.declared.entry.Entry.{Entry}
use Rattle.svc_history_laws.specs.declared.entry.ServedKind.{ServedKind}
use Rattle.svc_report.specs.declared.counts.Counts.{Counts}
use Rattle.svc_report.specs.declared.table.TableRow.{TableRow}
use Rattle.svc_report.specs.Fields.{served_word}
use Rattle.svc_report.specs.Summary.{counts_of}
use Rattle.svc_report.specs.Table.{table_text}
use Rattle.svc_task_runs.specs.declared.task_run.TaskRun.{TaskRun}
use Rattle.svc_profile.specs.declared.totals.Total.{Total}
use Rattle.svc_profile.specs.Profile.{group_word, measure_word, served_count, suppliers_told, total, totals_told}
use Rattle.svc_task_runs.specs.Runs.{tasks_of}

-- the names of the profile's rows
abbrev pub total_name : Total → List ℕ
total_name t = measure_word t.measure ++ (codes "-" ++ group_word t.group)

abbrev pub served_name : ServedKind → List ℕ
served_name k = codes "served-" ++ served_word k

abbrev pub profile_names : List (List ℕ)
profile_names =
    codes "label" ∷ codes "events" ∷ (map total_name totals_told
    ++ (map served_name suppliers_told ++ (codes "replaced" ∷ [])))

abbrev pub total_field : List TaskRun → Total → List ℕ
total_field rs t = decimal (total rs t)

abbrev pub served_field : Counts → ServedKind → List ℕ
served_field c k = decimal (served_count c k)

-- the label and the counts of the profile's rows
abbrev pub profile_fields : List ℕ → List Entry → List (List ℕ)
profile_fields label es =
    label ∷ decimal (length es)
    ∷ (map (total_field (tasks_of es)) totals_told
    ++ (map (served_field (counts_of es)) suppliers_told
    ++ (decimal (counts_of es).replace ∷ [])))

-- the row of a profile, with its header if asked for
abbrev pub profile_row : TableRow → List Entry → List ℕ
profile_row row es = table_text row.header profile_names (profile_fields row.label.now es)
