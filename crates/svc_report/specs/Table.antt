-- Rows of tables, and a run's summary as one.
use Rattle.std.specs.Prelude.{ℕ, List, [], ◌∷◌, ◌++◌, Bool, cond, codes, decimal, map}
use Rattle.csv.specs.Writing.{default_writer, row_text}
use Rattle.svc_core_laws.specs.declared.end.Ending.{Ending}
use Rattle.svc_report.specs.declared.counts.Counts.{Counts}
use Rattle.svc_report.specs.declared.table.TableRow.{TableRow}
use Rattle.svc_report.specs.Summary.{count_names, count_numbers, ending_number, ending_word}

-- the line of a table's names, as `csv` writes it, if there is to be a header
abbrev pub header_text : Bool → List (List ℕ) → List ℕ
header_text header names = cond header (row_text default_writer names) []

-- the line of a row's fields, after that of the names if there is to be a header
abbrev pub table_text : Bool → List (List ℕ) → List (List ℕ) → List ℕ
table_text header names fields = header_text header names ++ row_text default_writer fields

-- the names of the columns
abbrev pub summary_names : List (List ℕ)
summary_names = codes "label" ∷ codes "tasks" ∷ codes "ending" ∷ codes "number" ∷ count_names

abbrev pub summary_fields : List ℕ → ℕ → Ending → Counts → List (List ℕ)
summary_fields label tasks ending c =
    label ∷ decimal tasks ∷ ending_word ending ∷ decimal (ending_number ending)
    ∷ map decimal (count_numbers c)

-- what a summary says except the output words, under the names of its rows
abbrev pub summary_row : TableRow → ℕ → Ending → Counts → List ℕ
summary_row row tasks ending c = table_text row.header summary_names (summary_fields row.label.now tasks ending c)
